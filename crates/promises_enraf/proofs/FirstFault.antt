-- First fault: both lists of tests are asked in the document's order, so the law of any such list applies. The frame's five tests give one number.
use mathlib.Core.Path.{◌≡◌, refl, sym, ap, ◌∙◌}
use mathlib.Core.Bool.{Bool, true, false, not, ◌&&◌, ◌||◌}
use mathlib.Core.List.{List, [], ◌∷◌}
use Prim.Native.Nat.{ℕ, ◌-◌}
use lib.Dec.{eqb, leb, ltb}
use lib.ListN.{length, get_or}
use borrow.Author.Tests.{leb-true, leb-false, le-ltb, lt-ltb}
use Rattle.frame.specs.Pick.{pick}
use Rattle.frame.specs.Faults.{first_of}
use Rattle.enraf.specs.Item.{Item, text_fits}
use Rattle.enraf.specs.Record.{STX, ETX, B, Z}
use Rattle.enraf.specs.Reading.{framed, check_right, addressed, item_in, read_fault}
use Rattle.enraf.specs.Writing.{write_fault}
use Rattle.promises_enraf.specs.FirstFault.{read_table, write_table, ItemFirstFault}
use Rattle.promises_frame.proofs.FirstFault.{asked, given}
use Rattle.promises_enraf.proofs.Outcomes.{read_number, write-number}

-- Not framed is the document's list of what can be wrong.
short : (n : ℕ) → not (leb 10 n) ≡ ltb n 10
short n = go (leb 10 n) refl
  where
    go : (b : Bool) → leb 10 n ≡ b → not b ≡ ltb n 10
    go true e = sym (le-ltb n 10 (leb-true 10 n e))
    go false e = sym (lt-ltb n 10 (leb-false 10 n e))

any : (a b c d e : Bool) → not (a && b && c && d && e) ≡ (not a || not b || not c || not d || not e)
any true true true true e = refl
any true true true false e = refl
any true true false d e = refl
any true false c d e = refl
any false b c d e = refl

read-asks : (s : List ℕ) → read_fault s ≡ first_of (asked (read_table s) (29 ∷ 30 ∷ 31 ∷ 32 ∷ []))
unfolding read_fault framed first_of
read-asks s =
    let a = eqb (get_or s 0 0) STX in
    let b = eqb (get_or s 4 0) B in
    let c = eqb (get_or s 5 0) Z in
    let d = eqb (get_or s (length s - 2) 0) ETX in
    ap (λ (t : Bool). pick t 29 (pick (not (check_right s)) 30 (pick (not (addressed s)) 31 (pick (not (text_fits (item_in s))) 32 0))))
    (any (leb 10 (length s)) a b c d ∙ ap (λ (t : Bool). t || not a || not b || not c || not d) (short (length s)))

write-asks : (i : Item) (out : List ℕ) → write_fault i out ≡ first_of (asked (write_table i out) (31 ∷ 32 ∷ 33 ∷ []))
unfolding write_fault
write-asks i out = refl

pub item-first-fault : ItemFirstFault
item-first-fault =
    record {
      read = λ s got r. given (read_table s) (29 ∷ 30 ∷ 31 ∷ 32 ∷ []) got.number (read_number s got r ∙ read-asks s);
      write = λ i out after said w. given (write_table i out) (31 ∷ 32 ∷ 33 ∷ []) said.number (write-number i out after said w ∙ write-asks i out);
    }
