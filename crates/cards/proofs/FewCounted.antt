-- A slot is counted once or not at all, so no count is above the number of slots. By induction on the slots. Assumes nothing.
use mathlib.Core.List.{List}
use Prim.Native.Nat.{ℕ, zero, suc, ◌+◌, ◌≤◌}
use native.Mathlib.Omega.{arith}
use Rattle.sheet.specs.declared.Found.{Found}
use Rattle.sheet.specs.declared.Found.TheVariants.{Blank, Spoiled, Foreign, Record, Refused}
use Rattle.sheet.specs.Look.{look_of}
use Rattle.cards.specs.declared.counting.Tally.{Tally}
use Rattle.cards.specs.Tally.{with_slot, tally_up_to}

abbrev all_counted : Tally → ℕ
all_counted t = t.records + t.spoiled + t.foreign

one_more : (f : Found) (t : Tally) → all_counted (with_slot f t) ≤ all_counted t + 1
one_more Blank t = omega arith
one_more Spoiled t = omega arith
one_more Foreign t = omega arith
one_more (Record h) t = omega arith
one_more (Refused n) t = omega arith

pub few-counted : (s : List ℕ) (k : ℕ) → (tally_up_to s k).records + (tally_up_to s k).spoiled + (tally_up_to s k).foreign ≤ k
unfolding tally_up_to
few-counted s zero = omega arith
few-counted s (suc k) = omega (arith, few-counted s k, one_more (look_of s k).found (tally_up_to s k))
