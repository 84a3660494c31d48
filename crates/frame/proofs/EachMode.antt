-- The mode of a number: what holds of each of the four modes holds of the mode of any number. Assumes nothing.
use Prim.Native.Nat.{ℕ, ◌<◌, ◌≤◌}
use lib.Dec.{T, eqb, ltb, leb, leb→le, ltb→lt}
use lib.ListN.{length}
use Rattle.frame.specs.Level.{Mode, mode_of, fractional_mode, decimal_mode, twenty_metre_mode, thirty_metre_mode}
use Rattle.frame.proofs.Tables.{pick-case}

-- what holds of each mode
pub every-mode : (P : Mode → Type 0) → P fractional_mode → P decimal_mode → P twenty_metre_mode → P thirty_metre_mode → (k : ℕ) → P (mode_of k)
unfolding mode_of
every-mode P a b c d k = pick-case P (eqb k 0) a (pick-case P (eqb k 1) b (pick-case P (eqb k 2) c d))

-- each mode has levels of 16 bits and at most five digits
pub small-levels : (k : ℕ) → (mode_of k).largest < 65536
unfolding fractional_mode decimal_mode twenty_metre_mode thirty_metre_mode
small-levels k = ltb→lt (mode_of k).largest 65536 (every-mode (λ (m : Mode). T (ltb m.largest 65536)) tt tt tt tt k)

pub few-digits : (k : ℕ) → length (mode_of k).row ≤ 5
unfolding fractional_mode decimal_mode twenty_metre_mode thirty_metre_mode
few-digits k = leb→le (length (mode_of k).row) 5 (every-mode (λ (m : Mode). T (leb (length m.row) 5)) tt tt tt tt k)
