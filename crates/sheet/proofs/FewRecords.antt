-- A slot holds one record or none, so there are no more records than slots. Assumes nothing.
use mathlib.Core.List.{List}
use Prim.Native.Nat.{ℕ, zero, suc, ◌≤◌}
use native.Mathlib.Omega.{arith}
use lib.ListN.{length, length-append}
use Rattle.sheet.specs.Slots.{Slot, blank, spoiled, foreign, holds, slot_at, slot_of, record_in, list_up_to}

one-or-none : (t : Slot) → length (record_in t) ≤ 1
one-or-none blank = omega arith
one-or-none spoiled = omega arith
one-or-none foreign = omega arith
one-or-none (holds e) = omega arith

pub few-records : (s : List ℕ) (k : ℕ) → length (list_up_to s k) ≤ k
unfolding list_up_to
few-records s zero = omega arith
few-records s (suc k) = simp length-append (omega (arith, few-records s k, one-or-none (slot_of (slot_at s k))))
