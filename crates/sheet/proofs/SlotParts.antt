-- The part of a sheet that is a slot: it has 32 bytes where the sheet has that slot, and is read as a slot there. Assumes nothing.
use mathlib.Core.Path.{◌≡◌}
use mathlib.Core.Bool.{true}
use mathlib.Core.List.{List}
use Prim.Native.Nat.{ℕ, ◌<◌, ◌≤◌}
use native.Mathlib.Omega.{arith}
use borrow.Author.Tests.{lt-ltb, ne_eqb}
use lib.ListN.{length, length-take, length-drop}
use Rattle.frame.specs.Faults.{fault}
use Rattle.sheet.specs.declared.Found.TheVariants.{Refused}
use Rattle.sheet.specs.Slots.{size_allowed, slots, slot_at, slot_of}
use Rattle.sheet.specs.Look.{bare, look_told, part_of, look_of}

-- the 32 bytes of a slot that are all there, and of one whose bytes are not
pub slot-long : (s : List ℕ) (k : ℕ) → k < slots s → length (slot_at s k) ≡ 32
slot-long s k near = simp (length-take, length-drop) (omega arith)

pub slot-short : (s : List ℕ) (k : ℕ) → slots s ≤ k → length (slot_at s k) ≡ 32 → ⊥
slot-short s k far long =
    let size = simp (length-take, length-drop) at long in
    omega arith

-- any other part is no slot
pub no_slot : (x : List ℕ) → (length x ≡ 32 → ⊥) → part_of x ≡ bare (Refused (fault 12))
unfolding part_of
no_slot x h = simp (ne_eqb (length x) 32 h)

-- a look at a slot that is there
pub look-within : (s : List ℕ) (k : ℕ) → size_allowed s ≡ true → k < slots s → look_of s k ≡ look_told (slot_of (slot_at s k))
unfolding look_of
look-within s k sized near = simp (sized, lt-ltb k (slots s) near)
