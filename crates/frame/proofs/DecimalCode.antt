-- The codes worked out: one test, computed at the nine places from 0 to 8 of the decimal chart, and the place of 9; and of every other chart
-- one test, computed at each of its places. Assumes nothing.
use mathlib.Core.Path.{◌≡◌, refl}
use mathlib.Core.Bool.{Bool}
use Prim.Native.Nat.{ℕ, ◌/◌, ◌<◌}
use borrow.Author.Tests.{ne_eqb}
use lib.Bits.{bit_xor}
use lib.Dec.{T, eqb, eqb→eq}
use lib.ListN.{get_or}
use Rattle.frame.specs.Charts.{Chart, one_bit, two_bits, feet_tens, decimal, inches, sixteenths, size_of}
use Rattle.frame.specs.Inside.Packed.{chart_of}
use Rattle.frame.proofs.Tables.{all_below, at-below, pick-case}

worked_out : Chart → ℕ → Bool
worked_out c d = eqb (bit_xor d (d / 2)) (get_or c.codes d 0)

pub half-combined : (d : ℕ) → d < 9 → bit_xor d (d / 2) ≡ get_or decimal.codes d 0
unfolding worked_out decimal
half-combined d h = eqb→eq _ _ (at-below (worked_out decimal) 9 tt d h)

pub nine-alone : get_or decimal.codes 9 0 ≡ 0b1000
unfolding decimal
nine-alone = refl

-- every chart but the decimal one
abbrev Throughout : Chart → Type 0
Throughout c = T (all_below (worked_out c) (size_of c))

throughout : (k : ℕ) → (k ≡ 3 → ⊥) → Throughout (chart_of k)
unfolding worked_out chart_of one_bit two_bits feet_tens inches sixteenths
throughout k other =
    rw (ne_eqb k 3 other)
    (pick-case Throughout (eqb k 0) tt (pick-case Throughout (eqb k 1) tt (pick-case Throughout (eqb k 2) tt (pick-case Throughout (eqb k 4) tt tt))))

pub half-throughout : (k at : ℕ) → (k ≡ 3 → ⊥) → at < size_of (chart_of k) → bit_xor at (at / 2) ≡ get_or (chart_of k).codes at 0
unfolding worked_out
half-throughout k at other h = eqb→eq _ _ (at-below (worked_out (chart_of k)) (size_of (chart_of k)) (throughout k other) at h)
