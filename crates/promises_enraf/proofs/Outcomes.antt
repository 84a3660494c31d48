-- What the two contracts say by cases: an accepted call has no fault, and a call without a fault is accepted.
use mathlib.Core.Path.{◌≡◌, refl, sym, ap, ◌∙◌}
use mathlib.Core.Bool.{Bool, true, false, not, ◌||◌}
use mathlib.Core.List.{List, ◌++◌}
use Prim.Native.Nat.{ℕ, ◌≤◌}
use native.Mathlib.Omega.{arith}
use lib.Dec.{eqb, ltb}
use lib.ListN.{length, drop}
use borrow.Author.Tests.{eqb-true, ltb-false}
use Rattle.frame.specs.Pick.{pick}
use Rattle.frame.specs.Faults.{first_of}
use Rattle.enraf.specs.declared.Done.{Done}
use Rattle.enraf.specs.declared.ItemTold.{ItemTold}
use Rattle.enraf.specs.Item.{Item, text_fits}
use Rattle.enraf.specs.Record.{item_record}
use Rattle.enraf.specs.Reading.{read_fault, item_in, told_in_integers, refused, ReadsItem}
use Rattle.enraf.specs.Writing.{write_fault, done, WritesItem}

-- The number that is answered is the fault.
pub read_number : (s : List ℕ) (got : ItemTold) → ReadsItem s got → got.number ≡ read_fault s
read_number s got r = ap (λ (t : ItemTold). t.number) r.answers ∙ go (eqb (read_fault s) 0) refl
  where
    go : (b : Bool) → eqb (read_fault s) 0 ≡ b → (pick b (told_in_integers (item_in s)) (refused (read_fault s))).number ≡ read_fault s
    go true e = sym (eqb-true (read_fault s) 0 e)
    go false e = refl

pub write-number : (i : Item) (out after : List ℕ) (said : Done) → WritesItem i out said after → said.number ≡ write_fault i out
write-number i out after said w = ap (λ (d : Done). d.number) w.answers ∙ go (eqb (write_fault i out) 0) refl
  where
    go : (b : Bool) → eqb (write_fault i out) 0 ≡ b → (pick b (done (length (item_record i)) 0) (done 0 (write_fault i out))).number ≡ write_fault i out
    go true e = sym (eqb-true (write_fault i out) 0 e)
    go false e = refl

pub read-accepted : (s : List ℕ) (got : ItemTold) → ReadsItem s got → read_fault s ≡ 0 → got ≡ told_in_integers (item_in s)
read-accepted s got r e = r.answers ∙ ap (λ (n : ℕ). pick (eqb n 0) (told_in_integers (item_in s)) (refused n)) e

pub record Accepted (i : Item) (out after : List ℕ) (said : Done) : Type 0 where
  pub fault : write_fault i out ≡ 0
  pub count : said.count ≡ length (item_record i)
  pub left : after ≡ item_record i ++ drop (length (item_record i)) out

pub write-made : (i : Item) (out after : List ℕ) (said : Done) → WritesItem i out said after → write_fault i out ≡ 0 → Accepted i out after said
write-made i out after said w e =
    let r = item_record i in
    record {
      fault = e;
      count = ap (λ (d : Done). d.count) (w.answers ∙ ap (λ (n : ℕ). pick (eqb n 0) (done (length r) 0) (done 0 n)) e);
      left = w.leaves ∙ ap (λ (n : ℕ). pick (eqb n 0) (r ++ drop (length r) out) out) e;
    }

pub write-accepted : (i : Item) (out after : List ℕ) (said : Done) → WritesItem i out said after → said.number ≡ 0 → Accepted i out after said
write-accepted i out after said w e = write-made i out after said w (sym (write-number i out after said w) ∙ e)

-- A write without a fault is of an item that fits, into an output that has room; and the other way.
none : (x y z w : Bool) → ◌≡◌ {A = ℕ} (pick (x || y) 31 (pick (not z) 32 (pick w 33 0))) 0 → (x ≡ false) × (y ≡ false) × (z ≡ true) × (w ≡ false)
none false false true false e = (refl, refl, refl, refl)
none false false true true e = absurd (omega arith)
none false false false w e = absurd (omega arith)
none false true z w e = absurd (omega arith)
none true y z w e = absurd (omega arith)

pub tests : (i : Item) (out : List ℕ) → write_fault i out ≡ 0
    → (ltb 9 i.ciu ≡ false) × (ltb 99 i.gauge ≡ false) × (text_fits i ≡ true) × (ltb (length out) (length (item_record i)) ≡ false)
unfolding write_fault first_of
tests i out e = none (ltb 9 i.ciu) (ltb 99 i.gauge) (text_fits i) (ltb (length out) (length (item_record i))) e

pub fitting-write : (i : Item) (out : List ℕ) → write_fault i out ≡ 0 → (i.ciu ≤ 9) × (i.gauge ≤ 99) × (text_fits i ≡ true)
fitting-write i out e =
    let t = tests i out e in
    (ltb-false 9 i.ciu t.0, ltb-false 99 i.gauge t.1, t.2)

pub room : (i : Item) (out : List ℕ) → write_fault i out ≡ 0 → length (item_record i) ≤ length out
room i out e = ltb-false (length out) (length (item_record i)) (tests i out e).3
