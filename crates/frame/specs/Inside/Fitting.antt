-- The constants of each of the four modes give what the mode says: computed, but for the fill bits, which are asked for on both sides of the
-- digits or only after them. A reader of document 01 need not believe this file.
use Rattle.std.proofs.Common.{◌≡◌, refl, Bool, true, false, ◌&&◌, [], ◌∷◌, ℕ, ◌/◌, ◌%◌, ◌^◌, eqb, lit<, lit≤, arith}
use Rattle.std.proofs.Math.Nat.{mod-one}
use Rattle.frame.specs.Charts.{one_bit, two_bits, feet_tens, decimal, inches, sixteenths}
use Rattle.frame.specs.Level.{width_of, values_of, fractional_mode, decimal_mode, twenty_metre_mode, thirty_metre_mode}
use Rattle.frame.specs.Inside.Packed.{chart_of, digit_row}
use Rattle.frame.specs.Inside.Constants.{Fits, fractional, decimal_feet, metres20, metres30, fill_at}

and_true : (b : Bool) → (b && true) ≡ b
and_true true = refl
and_true false = refl

-- fill on both sides of the digits, or only after them
both_sides : (n j : ℕ) → fill_at n 17 j ≡ (eqb (n / 2 ^ 48 % 2 ^ 1) 0 && (eqb (n / 2 ^ 27 % 2 ^ j) 0 && true))
both_sides n j = rw (and_true (eqb (n / 2 ^ 27 % 2 ^ j) 0))

only_after : (n j : ℕ) → fill_at n 16 j ≡ (eqb (n / 2 ^ 27 % 2 ^ j) 0 && true)
only_after n j = rw (mod-one (n / 2 ^ 49), and_true (eqb (n / 2 ^ 27 % 2 ^ j) 0))

pub fractional_fits : Fits fractional_mode fractional
unfolding fractional_mode width_of values_of digit_row chart_of feet_tens decimal inches sixteenths
fractional_fits =
    record {
      top = feet_tens;
      rest = decimal ∷ inches ∷ sixteenths ∷ [];
      row = refl;
      charts_are = refl;
      narrow = lit≤ tt;
      alone = λ bits h. omega arith;
      wide = refl;
      cut = refl;
      count = refl;
      last = refl;
      fill = λ n. both_sides n 6;
      largest = refl;
      straight = refl;
      values = lit< tt;
      ends = lit≤ tt;
    }

pub decimal_fits : Fits decimal_mode decimal_feet
unfolding decimal_mode width_of values_of digit_row chart_of feet_tens decimal
decimal_fits =
    record {
      top = feet_tens;
      rest = decimal ∷ decimal ∷ decimal ∷ [];
      row = refl;
      charts_are = refl;
      narrow = lit≤ tt;
      alone = λ bits h. omega arith;
      wide = refl;
      cut = refl;
      count = refl;
      last = refl;
      fill = λ n. both_sides n 6;
      largest = refl;
      straight = refl;
      values = lit< tt;
      ends = lit≤ tt;
    }

pub metres20_fits : Fits twenty_metre_mode metres20
unfolding twenty_metre_mode width_of values_of digit_row chart_of one_bit decimal
metres20_fits =
    record {
      top = one_bit;
      rest = decimal ∷ decimal ∷ decimal ∷ decimal ∷ [];
      row = refl;
      charts_are = refl;
      narrow = lit≤ tt;
      alone = λ bits h. omega arith;
      wide = refl;
      cut = refl;
      count = refl;
      last = refl;
      fill = λ n. only_after n 5;
      largest = refl;
      straight = refl;
      values = lit< tt;
      ends = lit≤ tt;
    }

pub metres30_fits : Fits thirty_metre_mode metres30
unfolding thirty_metre_mode width_of values_of digit_row chart_of two_bits decimal
metres30_fits =
    record {
      top = two_bits;
      rest = decimal ∷ decimal ∷ decimal ∷ decimal ∷ [];
      row = refl;
      charts_are = refl;
      narrow = lit≤ tt;
      alone = λ bits h. omega arith;
      wide = refl;
      cut = refl;
      count = refl;
      last = refl;
      fill = λ n. only_after n 4;
      largest = refl;
      straight = refl;
      values = lit< tt;
      ends = lit≤ tt;
    }
