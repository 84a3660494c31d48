-- The digits of a level, written from the ones digit up, in one sum: dividing by a digit's values and then by the next one's is dividing by
-- both. Assumes nothing.
use mathlib.Core.Path.{◌≡◌, refl, sym}
use mathlib.Core.Bool.{Bool, false}
use Prim.Native.Nat.{ℕ, ◌+◌, ◌*◌, ◌/◌, ◌%◌, ◌^◌, ◌<◌}
use native.Mathlib.Nat.{div-div-eq-div-mul}
use native.Mathlib.Omega.{arith}
use Rattle.frame.specs.Charts.{feet_tens, decimal, inches, sixteenths, size_of, code_of}
use Rattle.frame.specs.Inside.Packed.{chart_of, ones_code, three_up, write_up}
use Rattle.frame.specs.Inside.Constants.{fractional, decimal_feet, codes_by}

-- what stands above a digit, by one division of the level
pub above-16 : (v : ℕ) → v / 16 ≡ v / size_of (chart_of 5)
unfolding chart_of sixteenths
above-16 v = refl

pub above-192 : (v : ℕ) → v / 192 ≡ v / 16 / size_of (chart_of 4)
unfolding chart_of inches
above-192 v = sym (div-div-eq-div-mul v 16 12)

pub above-10 : (v : ℕ) → v / 10 ≡ v / size_of (chart_of 3)
unfolding chart_of decimal
above-10 v = refl

pub above_more : (v unit : ℕ) → v / (unit * 10) ≡ v / unit / size_of (chart_of 3)
unfolding chart_of decimal
above_more v unit = sym (div-div-eq-div-mul v unit 10)

-- the two modes in feet
pub fractional-up : (v : ℕ)
    → codes_by fractional v ≡ ones_code sixteenths v + 16 * ones_code inches (v / 16) + 256 * ones_code decimal (v / 192) + 4096 * code_of false feet_tens (v / 1920 % size_of feet_tens)
unfolding write_up chart_of feet_tens decimal inches sixteenths
fractional-up v = rw (div-div-eq-div-mul v 16 12, div-div-eq-div-mul v 192 10) (omega arith)

pub decimal-up : (v : ℕ) → codes_by decimal_feet v ≡ three_up v + 4096 * code_of false feet_tens (v / 1000 % size_of feet_tens)
unfolding write_up chart_of feet_tens decimal
decimal-up v = rw (div-div-eq-div-mul v 10 10, div-div-eq-div-mul v 100 10) (omega arith)

-- in metres four decimal digits stand below a digit of any chart
module _ (top : ℕ) (few : top < 16) where
  chart-0 : (0x33330 + top) / 16 ^ 0 % 16 ≡ top
  chart-0 = omega arith

  above-1 : (0x33330 + top) / 16 ^ 1 ≡ 0x3333
  above-1 = omega arith

  above-2 : (0x33330 + top) / 16 ^ 2 ≡ 0x333
  above-2 = omega arith

  above-3 : (0x33330 + top) / 16 ^ 3 ≡ 0x33
  above-3 = omega arith

  above-4 : (0x33330 + top) / 16 ^ 4 ≡ 0x3
  above-4 = omega arith

  pub five-up : (start : Bool) (v : ℕ)
      → write_up (0x33330 + top) 5 start v
      ≡ three_up v + 4096 * ones_code decimal (v / 1000) + 65536 * code_of start (chart_of top) (v / 10000 % size_of (chart_of top))
  unfolding write_up chart_of decimal
  five-up start v =
      rw (above-4, above-3, above-2, above-1, chart-0, div-div-eq-div-mul v 10 10, div-div-eq-div-mul v 100 10, div-div-eq-div-mul v 1000 10) (omega arith)
