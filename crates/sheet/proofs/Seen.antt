-- What a look at a slot tells is the record that the slot holds, or none; what a count of the slots tells is the size; and the list, one slot more. A look goes
-- by the tests of the slot's definition; a record's reply bytes are those that its count asks for, since it is in form. Assumes nothing.
use mathlib.Core.Path.{◌≡◌, refl, sym, ap, ◌∙◌}
use mathlib.Core.Bool.{Bool, true, false, ◌&&◌}
use mathlib.Core.List.{List, ◌∷◌, [], ◌++◌}
use Prim.Native.Nat.{ℕ, ◌+◌, ◌-◌, ◌%◌, ◌<◌, ◌≤◌}
use native.Mathlib.Numerals.{add-one}
use native.Mathlib.Omega.{arith}
use borrow.Author.Tests.{leb-true}
use lib.Dec.{eqb, leb}
use lib.ListN.{length, get_or, take, replicate}
use lib.Seq.{take_at}
use Rattle.frame.specs.Pick.{pick}
use Rattle.frame.specs.Line.{bytes_for}
use Rattle.sheet.specs.declared.Found.{Found}
use Rattle.sheet.specs.declared.Found.TheVariants.{Blank, Spoiled, Foreign, Record, Refused}
use Rattle.sheet.specs.declared.Head.{Head}
use Rattle.sheet.specs.declared.Looked.{Looked}
use Rattle.sheet.specs.Bytes.{FF, all_blank}
use Rattle.sheet.specs.Record.{is_record, fields_of}
use Rattle.sheet.specs.Slots.{Slot, blank, spoiled, foreign, holds, size_allowed, slots, slot_at, slot_of, record_in, list_up_to}
use Rattle.sheet.specs.Look.{Looks, look_told, head_of, entry_with, record_told}
use Rattle.sheet.specs.View.{Counts, slots_counted}
use Rattle.sheet.proofs.Records.{record-passes, passes-formed, formed-few}
use Rattle.sheet.proofs.SlotParts.{look-within}
use Rattle.std.specs.Prelude.{Result, Ok, Err}
use Rattle.frame.specs.declared.faults.Fault.{Fault}
use Rattle.frame.specs.Faults.{fault}

abbrev bits_told : Found → ℕ
bits_told Blank = 0
bits_told Spoiled = 0
bits_told Foreign = 0
bits_told (Record h) = h.count
bits_told (Refused n) = 0

record Tells (t : Slot) (looked : Looked) : Type 0 where
  records : record_told looked.found looked.reply ≡ record_in t
  bits : bits_told looked.found ≤ 64

in-form : (x : List ℕ) → is_record x ≡ true → Tells (holds (fields_of x)) (look_told (holds (fields_of x)))
in-form x is =
    let y = fields_of x in
    let few = formed-few y.count y.reply (passes-formed y (record-passes x is)) in
    let reply : take (bytes_for y.count) (y.reply ++ replicate (8 - length y.reply) 0) ≡ y.reply =
    take_at y.reply (replicate (8 - length y.reply) 0) (bytes_for y.count) few.1 in
    record { records = ap (λ (r : List ℕ). entry_with (head_of y) r ∷ []) reply; bits = few.0 }

tells : (x : List ℕ) → Tells (slot_of x) (look_told (slot_of x))
unfolding slot_of
tells x = go (all_blank x) (eqb (get_or x 0 0) FF) (is_record x) refl
  where
    go : (a f r : Bool) → is_record x ≡ r → let t : Slot = pick a blank (pick f spoiled (pick r (holds (fields_of x)) foreign)) in Tells t (look_told t)
    go true f r e = record { records = refl; bits = omega arith }
    go false true r e = record { records = refl; bits = omega arith }
    go false false true e = in-form x e
    go false false false e = record { records = refl; bits = omega arith }

module _ (s : List ℕ) (k : ℕ) (looked : Looked) (size : size_allowed s ≡ true) (near : k < slots s) (looks : Looks s k looked) where
  -- a slot of the sheet is answered as what it is
  pub seen-slot : looked ≡ look_told (slot_of (slot_at s k))
  seen-slot = looks.answers ∙ look-within s k size near

  seen : Tells (slot_of (slot_at s k)) looked
  seen = rw seen-slot (tells (slot_at s k))

  pub seen-record : record_told looked.found looked.reply ≡ record_in (slot_of (slot_at s k))
  seen-record = seen.records

  pub seen-bits : (h : Head) → looked.found ≡ Record h → h.count ≤ 64
  seen-bits h e = rw (ap bits_told e) at seen.bits

-- the list, one slot more
pub list-more : (s : List ℕ) (k : ℕ) → list_up_to s (k + 1) ≡ list_up_to s k ++ record_in (slot_of (slot_at s k))
list-more s k = unfold list_up_to in ap (list_up_to s) (add-one k)

-- an allowed sheet has at most 2,048 slots
pub few-slots : (s : List ℕ) → size_allowed s ≡ true → slots s ≤ 2048
few-slots s h = go (eqb (length s % 32) 0) (leb (length s) 65536) refl h
  where
    go : (a b : Bool) → leb (length s) 65536 ≡ b → (a && b) ≡ true → slots s ≤ 2048
    go true true e q = omega (arith, leb-true (length s) 65536 e)
    go true false e q = let z : ◌≡◌ {A = ℕ} 0 1 = cc in absurd (omega arith)
    go false b e q = let z : ◌≡◌ {A = ℕ} 0 1 = cc in absurd (omega arith)

by_size : (s : List ℕ) (a : Bool) → size_allowed s ≡ a → slots_counted s ≡ pick a (Ok (slots s)) (Err (fault 12))
unfolding slots_counted
by_size s a e = simp e

module _ (s : List ℕ) (answer : Result ℕ Fault) (n : ℕ) (counts : Counts s answer) where
  -- slots were told: the size is allowed, and those are its slots
  pub told-slots : answer ≡ Ok n → (size_allowed s ≡ true) × (n ≡ slots s)
  told-slots e = go (size_allowed s) refl
    where
      go : (a : Bool) → size_allowed s ≡ a → (size_allowed s ≡ true) × (n ≡ slots s)
      go true q = let told = sym e ∙ counts.answers ∙ by_size s true q in (q, cc)
      go false q = let told = sym e ∙ counts.answers ∙ by_size s false q in let z : ◌≡◌ {A = ℕ} 0 1 = cc in absurd (omega arith)

module _ (s : List ℕ) (answer : Result ℕ Fault) (f : Fault) (counts : Counts s answer) where
  -- refused: the size is not allowed, and the fault is 12
  pub told-refused : answer ≡ Err f → (size_allowed s ≡ false) × (f ≡ fault 12)
  told-refused e = go (size_allowed s) refl
    where
      go : (a : Bool) → size_allowed s ≡ a → (size_allowed s ≡ false) × (f ≡ fault 12)
      go true q = let told = sym e ∙ counts.answers ∙ by_size s true q in let z : ◌≡◌ {A = ℕ} 0 1 = cc in absurd (omega arith)
      go false q = let told = sym e ∙ counts.answers ∙ by_size s false q in (q, cc)
