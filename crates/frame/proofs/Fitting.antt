-- The constants that a mode's type carries give what its mode says. The law is one for all modes: where constants and a mode fit (the same
-- fill bits, the same digit bits, the same charts, the first digit read straight), reading and writing by the one is reading and writing by
-- the other. The top digit may be read in four bits because no bit stands above it. That each of the four modes fits is computed. Assumes
-- nothing.
use mathlib.Core.Path.{◌≡◌, ◌∙◌}
use mathlib.Core.Bool.{Bool, true, false}
use mathlib.Core.List.{List, ◌∷◌}
use Prim.Native.Nat.{ℕ, ◌+◌, ◌/◌, ◌%◌, ◌^◌, ◌<◌, ◌≤◌}
use native.Mathlib.Nat.{mod-eq_of_lt, mod-lt}
use native.Mathlib.Omega.{arith}
use borrow.Author.Tests.{ne_eqb}
use lib.Dec.{eqb}
use lib.Pow.{pow_pos}
use Rattle.frame.specs.Pick.{pick}
use Rattle.frame.specs.Charts.{Chart}
use Rattle.frame.specs.Level.{Mode, mode_of, width_of, read_row, write_row, put_level, fractional_mode, decimal_mode, twenty_metre_mode, thirty_metre_mode}
use Rattle.frame.specs.Inside.Packed.{digit_row, level_code}
use Rattle.frame.specs.declared.constants.Constants.{Constants}
use Rattle.frame.specs.Inside.Fitting.{fractional_fits, decimal_fits, metres20_fits, metres30_fits}
use Rattle.frame.specs.Inside.Constants.{Fits, fractional, decimal_feet, metres20, metres30, constants_by, in_four_bits, digit_bits, read_by, write_by}
use Rattle.frame.proofs.Upward.{placed-up}

-- a digit read in four bits, where the bits fit its own width
top-in-four : (c : Chart) (cs : List Chart) (bits : ℕ) (odd : Bool) (sofar place : ℕ) → bits / 2 ^ width_of cs < 2 ^ c.width → 2 ^ c.width ≤ 16
    → read_row (in_four_bits c ∷ cs) bits odd sofar place ≡ read_row (c ∷ cs) bits odd sofar place
unfolding read_row
top-in-four c cs bits odd sofar place h w =
    let few : bits / 2 ^ width_of cs < 16 = omega arith in
    rw (mod-eq_of_lt few, mod-eq_of_lt h)

module _ (m : Mode) (k : Constants) (f : Fits m k) where
  pub read_is : (n : ℕ) → read_by k n ≡ level_code m n
  unfolding level_code
  read_is n =
      let bits = n / 2 ^ (27 + k.after) % 2 ^ digit_bits k.first k.after in
      let few : bits < 2 ^ digit_bits k.first k.after = mod-lt (n / 2 ^ (27 + k.after)) (pow_pos (digit_bits k.first k.after)) in
      rw (f.fill n, f.charts_are, f.straight, f.largest, top-in-four f.top f.rest bits false 0 0 (f.alone bits few) f.narrow, f.cut, f.last, f.row)

  same_codes : (v : ℕ) → write_row (digit_row k.charts k.digits) false v ≡ write_row m.row false v
  unfolding write_row
  same_codes v = rw (f.charts_are, f.row)

  pub write-is : (v : ℕ) → write_by k v ≡ put_level m v
  write-is v =
      placed-up v k.charts k.digits k.first k.after k.largest k.start f.values
      ∙ rw (f.straight, same_codes v, f.wide, f.last, f.largest)

-- the mode of a number by two questions: feet or metres, and then which
module _ (k : ℕ) where
  pub fractional-at : k ≡ 0 → mode_of k ≡ fractional_mode
  unfolding mode_of
  fractional-at e = rw e

  pub decimal-at : k < 2 → (k ≡ 0 → ⊥) → mode_of k ≡ decimal_mode
  unfolding mode_of
  decimal-at few some = let one : k ≡ 1 = omega arith in rw one

  pub metres20-at : k ≡ 2 → mode_of k ≡ twenty_metre_mode
  unfolding mode_of
  metres20-at e = rw e

  pub metres30-at : 2 ≤ k → (k ≡ 2 → ⊥) → mode_of k ≡ thirty_metre_mode
  unfolding mode_of
  metres30-at many other =
      let none : k ≡ 0 → ⊥ = omega arith in
      let one : k ≡ 1 → ⊥ = omega arith in
      simp (ne_eqb k 0 none, ne_eqb k 1 one, ne_eqb k 2 other)

-- the constants of every number fit the mode of that number
pub constants-fit : (k : ℕ) → Fits (mode_of k) (constants_by k)
unfolding mode_of
constants-fit k = go (eqb k 0) (eqb k 1) (eqb k 2)
  where
    go : (a b c : Bool)
        → Fits (pick a fractional_mode (pick b decimal_mode (pick c twenty_metre_mode thirty_metre_mode))) (pick a fractional (pick b decimal_feet (pick c metres20 metres30)))
    go true b c = fractional_fits
    go false true c = decimal_fits
    go false false true = metres20_fits
    go false false false = metres30_fits

-- so constants fit the mode of any number
pub some-fit : (k : ℕ) → (c : Constants) × Fits (mode_of k) c
some-fit k = (constants_by k, constants-fit k)

-- and are within the bounds that the readers ask for, since their type says so
abbrev pub Allowed : Constants → Type 0
Allowed k = (k.digits ≤ 5) × ((16 ≤ k.first) × ((k.first ≤ 17) × (k.after ≤ 6)))

pub allowed : (k : ℕ) → Allowed (constants_by k)
allowed k = let c = constants_by k in (c.few_digits, (c.from_16, (c.by_17, c.few_after)))

-- those of a number by the same two questions
module _ (k : ℕ) where
  pub fractional-by : k ≡ 0 → constants_by k ≡ fractional
  fractional-by e = rw e

  pub decimal-by : k < 2 → (k ≡ 0 → ⊥) → constants_by k ≡ decimal_feet
  decimal-by few some = let one : k ≡ 1 = omega arith in rw one

  pub metres20-by : k ≡ 2 → constants_by k ≡ metres20
  metres20-by e = rw e

  pub metres30-by : 2 ≤ k → (k ≡ 2 → ⊥) → constants_by k ≡ metres30
  metres30-by many other =
      let none : k ≡ 0 → ⊥ = omega arith in
      let one : k ≡ 1 → ⊥ = omega arith in
      simp (ne_eqb k 0 none, ne_eqb k 1 one, ne_eqb k 2 other)
