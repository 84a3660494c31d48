-- Written, then read: an accepted write leaves the item's record first in the output, and that record says the item.
use mathlib.Core.Path.{◌≡◌, refl, sym, ap, ◌∙◌}
use mathlib.Core.Bool.{true}
use mathlib.Core.List.{List}
use Prim.Native.Nat.{ℕ, ◌-◌, ◌≤◌}
use lib.ListN.{length, take, drop, replicate}
use lib.Seq.{take_at}
use Rattle.enraf.specs.declared.ItemTold.{ItemTold}
use Rattle.enraf.specs.Item.{Item, text_fits}
use Rattle.enraf.specs.Record.{item_record}
use Rattle.enraf.specs.Reading.{read_fault, item_in, told_in_integers, item_told}
use Rattle.promises_enraf.specs.WrittenThenRead.{Wrote, ItemWrittenThenRead}
use Rattle.promises_enraf.proofs.Outcomes.{read-accepted, write-accepted, fitting-write}
use Rattle.promises_enraf.proofs.Records.{says, readable}

-- The bytes that were written are the item's record.
bytes-are : (i : Item) (bytes : List ℕ) (w : Wrote i bytes) → bytes ≡ item_record i
bytes-are i bytes w =
    let ok = write-accepted i w.out w.after w.said w.writes w.taken in
    w.are ∙ ap (λ (a : List ℕ). take w.said.count a) ok.left ∙ take_at (item_record i) (drop (length (item_record i)) w.out) w.said.count (sym ok.count)

-- and it is read as that item
module _ (i : Item) (bytes : List ℕ) (w : Wrote i bytes) where
  fits : (i.ciu ≤ 9) × (i.gauge ≤ 99) × (text_fits i ≡ true)
  fits = fitting-write i w.out (write-accepted i w.out w.after w.said w.writes w.taken).fault

  item-is : item_in bytes ≡ i
  item-is = ap item_in (bytes-are i bytes w) ∙ says i fits.0 fits.1 fits.2

  no-fault : read_fault bytes ≡ 0
  no-fault = ap read_fault (bytes-are i bytes w) ∙ readable i fits.0 fits.1 fits.2

pub data-kept : (i : Item) → item_told (told_in_integers i) ≡ i
data-kept i =
    let d = i.characters in
    λ k. record {
      ciu = i.ciu;
      gauge = i.gauge;
      first = i.first;
      second = i.second;
      kind = i.kind;
      error = i.error;
      characters = take_at d (replicate (16 - length d) 0) (length d) refl k;
    }

pub item-written-then-read : ItemWrittenThenRead
item-written-then-read =
    record {
      read_back = λ i bytes got w r.
          let told-so : got ≡ told_in_integers (item_in bytes) = read-accepted bytes got r (no-fault i bytes w) in
          (ap (λ (t : ItemTold). t.number) told-so, ap item_told (told-so ∙ ap told_in_integers (item-is i bytes w)) ∙ data-kept i);
      one_reading = λ i j bytes v w. sym (item-is i bytes v) ∙ item-is j bytes w;
    }
