-- Accepted, then written again: what was told fits, so the write is made, and the record of what was told is the bytes that were read.
use mathlib.Core.Path.{◌≡◌, sym, ap, subst, ◌∙◌}
use mathlib.Core.Bool.{true, false}
use mathlib.Core.List.{List, ◌++◌}
use Prim.Native.Nat.{ℕ, ◌≤◌}
use lib.ListN.{length, drop}
use borrow.Author.Tests.{le-ltb}
use Rattle.enraf.specs.declared.Done.{Done}
use Rattle.enraf.specs.Item.{Item, text_fits}
use Rattle.enraf.specs.Record.{item_record}
use Rattle.enraf.specs.Reading.{read_fault, item_in, item_told}
use Rattle.enraf.specs.Writing.{write_fault, WritesItem}
use Rattle.enraf.proofs.ByTests.{write-fault-by}
use Rattle.promises_enraf.specs.ReadThenWritten.{SameBytes, ItemReadThenWritten}
use Rattle.promises_enraf.proofs.Outcomes.{read_number, read-accepted, write-number, write-made}
use Rattle.promises_enraf.proofs.Records.{small, fitting, again}
use Rattle.promises_enraf.proofs.WrittenThenRead.{data-kept}

-- Of an item whose record is these bytes.
same : (s : List ℕ) (i : Item) → i.ciu ≤ 9 → i.gauge ≤ 99 → text_fits i ≡ true → item_record i ≡ s
    → (out : List ℕ) → length s ≤ length out → (said : Done) (after : List ℕ) → WritesItem i out said after → SameBytes s out said after
same s i low few fits is out room said after w =
    let space : length (item_record i) ≤ length out = rw is room in
    let f : write_fault i out ≡ 0 = write-fault-by i out false false true false (le-ltb 9 i.ciu low) (le-ltb 99 i.gauge few) fits (le-ltb (length out) (length (item_record i)) space) in
    let made = write-made i out after said w f in
    record {
      taken = write-number i out after said w ∙ f;
      count = made.count ∙ ap length is;
      left = made.left ∙ ap (λ (r : List ℕ). r ++ drop (length r) out) is;
    }

pub item-read-then-written : ItemReadThenWritten
item-read-then-written =
    record {
      same_bytes = λ s got r zero out room said after w.
          let ok : read_fault s ≡ 0 = sym (read_number s got r) ∙ zero in
          let is : item_told got ≡ item_in s = ap item_told (read-accepted s got r ok) ∙ data-kept (item_in s) in
          same s (item_in s) (small s ok).0 (small s ok).1 (fitting s ok) (again s ok) out room said after
          (subst (λ (i : Item). WritesItem i out said after) is w);
    }
