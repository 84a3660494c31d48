-- Document 01, "Level": any row of digits read and written one after another from the top, and the four modes.
use Rattle.std.specs.Prelude.{Bool, true, false, ◌&&◌, List, [], ◌∷◌, ℕ, suc, ◌+◌, ◌-◌, ◌*◌, ◌/◌, ◌%◌, ◌^◌, eqb, ltb, leb}
use Rattle.frame.specs.Pick.{pick}
use Rattle.frame.specs.Line.{field, put}
use Rattle.frame.specs.Charts.{Chart, size_of, is_odd, turned, code_of, place_in, one_bit, two_bits, feet_tens, decimal, inches, sixteenths}

-- The bits of a row of digits, and how many values it has.
unfoldable pub width_of : List Chart → ℕ
width_of [] = 0
width_of (c ∷ cs) = c.width + width_of cs

unfoldable pub values_of : List Chart → ℕ
values_of [] = 1
values_of (c ∷ cs) = size_of c * values_of cs

-- What the bits of a level read as: a level, or the place, 0 at the top, of the first digit that is in no chart.
pub data Level : Type 0 where
  known : ℕ → Level
  lost : ℕ → Level

-- The digits are read from the top, fewer left each time. `odd` tells of the digit just above, `sofar` is the level of the digits above,
-- and `place` counts them.
unfoldable pub read_row : List Chart → ℕ → Bool → ℕ → ℕ → Level
read_row [] bits odd sofar place = known sofar
read_row (c ∷ cs) bits odd sofar place =
    let at = place_in (bits / 2 ^ width_of cs % 2 ^ c.width) c.codes in
    let d = turned odd (size_of c) at in
    pick (ltb at (size_of c)) (read_row cs bits (is_odd d) (sofar * size_of c + d) (suc place)) (lost place)

-- The codes of a level's digits, from the top.
unfoldable pub write_row : List Chart → Bool → ℕ → ℕ
write_row [] odd v = 0
write_row (c ∷ cs) odd v =
    let d = v / values_of cs in
    code_of odd c d * 2 ^ width_of cs + write_row cs (is_odd d) (v % values_of cs)

-- A run of fill bits, from one bit to another.
pub record Fill : Type 0 where
  pub from : ℕ
  pub to : ℕ

abbrev pub fill_clear : ℕ → List Fill → Bool
fill_clear n [] = true
fill_clear n (f ∷ fs) = eqb (field n f.from f.to) 0 && fill_clear n fs

-- A mode: its digits, the bit that they begin at, its fill bits, and its largest level.
pub record Mode : Type 0 where
  pub row : List Chart
  pub first : ℕ
  pub fill : List Fill
  pub largest : ℕ

unfoldable pub fractional_mode : Mode
fractional_mode =
    record {
      row = feet_tens ∷ decimal ∷ inches ∷ sixteenths ∷ [];
      first = 17;
      fill = record { from = 16; to = 16 } ∷ record { from = 32; to = 37 } ∷ [];
      largest = 15359;
    }

unfoldable pub decimal_mode : Mode
decimal_mode =
    record {
      row = feet_tens ∷ decimal ∷ decimal ∷ decimal ∷ [];
      first = 17;
      fill = record { from = 16; to = 16 } ∷ record { from = 32; to = 37 } ∷ [];
      largest = 7999;
    }

unfoldable pub twenty_metre_mode : Mode
twenty_metre_mode =
    record {
      row = one_bit ∷ decimal ∷ decimal ∷ decimal ∷ decimal ∷ [];
      first = 16;
      fill = record { from = 33; to = 37 } ∷ [];
      largest = 19999;
    }

unfoldable pub thirty_metre_mode : Mode
thirty_metre_mode =
    record {
      row = two_bits ∷ decimal ∷ decimal ∷ decimal ∷ decimal ∷ [];
      first = 16;
      fill = record { from = 34; to = 37 } ∷ [];
      largest = 32699;
    }

-- The mode of a number from 0 to 3.
unfoldable pub mode_of : ℕ → Mode
mode_of k = pick (eqb k 0) fractional_mode (pick (eqb k 1) decimal_mode (pick (eqb k 2) twenty_metre_mode thirty_metre_mode))

abbrev pub last_bit_of : Mode → ℕ
last_bit_of m = m.first + width_of m.row - 1

-- What the level bits of a line read as. The first digit is always read straight.
abbrev pub level_of : Mode → ℕ → Level
level_of m n = read_row m.row (field n m.first (last_bit_of m)) false 0 0

-- The digit bits of a level: a level outside its mode is written with every digit bit 1.
abbrev pub digits_of : Mode → ℕ → ℕ
digits_of m v = pick (leb v m.largest) (write_row m.row false v) (2 ^ width_of m.row - 1)

-- The level bits of a line; the fill is written 0.
abbrev pub put_level : Mode → ℕ → ℕ
put_level m v = put (digits_of m v) (last_bit_of m)

-- A digit is in no chart.
abbrev pub no_chart : Level → Bool
no_chart (known v) = false
no_chart (lost k) = true

-- The level that was read, 0 where none was.
abbrev pub value_of : Level → ℕ
value_of (known v) = v
value_of (lost k) = 0

-- The place of the digit that is in no chart, 0 where every digit was read.
abbrev pub place_lost : Level → ℕ
place_lost (known v) = 0
place_lost (lost k) = k

-- The level is above the largest of its mode; only the 30 m mode has codes for such levels.
abbrev pub above_largest : Mode → Level → Bool
above_largest m (known v) = ltb m.largest v
above_largest m (lost k) = false
