-- What is seen of a slot of a view, whatever count of slots the view holds, and that a view that was opened shows what a look shows. Each law goes by the
-- tests of its definitions. Assumes nothing.
use mathlib.Core.Path.{◌≡◌, refl, ap, ◌∙◌}
use mathlib.Core.Bool.{Bool, true, false, ◌&&◌}
use mathlib.Core.List.{List, []}
use Prim.Native.Nat.{ℕ, ◌<◌, ◌≤◌}
use native.Mathlib.Omega.{arith}
use borrow.Author.Tests.{ltb-true, ltb-false, lt-ltb, le-ltb, eq-eqb}
use lib.Dec.{ltb}
use lib.ListN.{length}
use Rattle.frame.specs.Faults.{fault}
use Rattle.frame.specs.Pick.{pick}
use Rattle.sheet.specs.declared.Found.TheVariants.{Refused}
use Rattle.sheet.specs.Slots.{size_allowed, slots, slot_at, slot_of}
use Rattle.sheet.specs.Look.{bare, look_told, part_of, look_of}
use Rattle.sheet.specs.View.{slots_for, seen_of}
use Rattle.sheet.proofs.SlotParts.{slot-long, slot-short, no_slot}

-- what is seen of a slot that is counted is what its part reads as
pub seen-part : (s : List ℕ) (n k : ℕ) → k < n → seen_of s n k ≡ part_of (slot_at s k)
unfolding seen_of
seen-part s n k counted = simp (lt-ltb k n counted)

-- what is seen of a slot that is counted and there, of one beyond the count, and of one beyond the bytes
pub seen-there : (s : List ℕ) (n k : ℕ) → k < n → k < slots s → seen_of s n k ≡ look_told (slot_of (slot_at s k))
unfolding seen_of part_of
seen-there s n k counted near = simp (lt-ltb k n counted, eq-eqb (length (slot_at s k)) 32 (slot-long s k near))

pub seen-uncounted : (s : List ℕ) (n k : ℕ) → n ≤ k → seen_of s n k ≡ bare (Refused (fault 12))
unfolding seen_of
seen-uncounted s n k far = simp (le-ltb k n far) (no_slot [] (λ h. omega arith))

pub seen-short : (s : List ℕ) (n k : ℕ) → slots s ≤ k → seen_of s n k ≡ bare (Refused (fault 12))
unfolding seen_of
seen-short s n k far = go (ltb k n)
  where
    go : (a : Bool) → part_of (pick a (slot_at s k) []) ≡ bare (Refused (fault 12))
    go true = no_slot (slot_at s k) (slot-short s k far)
    go false = no_slot [] (λ h. omega arith)

-- what is seen through a view that was opened is what a look answers
allowed-slots : (s : List ℕ) (a : Bool) → size_allowed s ≡ a → slots_for (length s) ≡ pick a (slots s) 0
unfolding slots_for
allowed-slots s a size = simp size

pub opened-seen : (s : List ℕ) (k : ℕ) → seen_of s (slots_for (length s)) k ≡ look_of s k
unfolding look_of
opened-seen s k = go (size_allowed s) (ltb k (slots s)) refl refl
  where
    go : (a b : Bool) → size_allowed s ≡ a → ltb k (slots s) ≡ b → seen_of s (slots_for (length s)) k ≡ pick (a && b) (look_told (slot_of (slot_at s k))) (bare (Refused (fault 12)))
    go true true p q = ap (λ (n : ℕ). seen_of s n k) (allowed-slots s true p) ∙ seen-there s (slots s) k (ltb-true k (slots s) q) (ltb-true k (slots s) q)
    go true false p q = ap (λ (n : ℕ). seen_of s n k) (allowed-slots s true p) ∙ seen-uncounted s (slots s) k (ltb-false k (slots s) q)
    go false b p q = ap (λ (n : ℕ). seen_of s n k) (allowed-slots s false p) ∙ seen-uncounted s 0 k (omega arith)
