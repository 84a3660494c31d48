-- Document 01, "Temperature", in tenths of a degree, with the hundred of an 1800 as document 02's request 06 has it.
use Rattle.std.specs.Prelude.{Bool, true, false, ℕ, suc, ◌+◌, ◌-◌, ◌*◌, ◌/◌, ◌%◌, min, eqb, leb, ℤ, pos, negsuc, neg_ℤ}
use Rattle.frame.specs.declared.Temperature.{Temperature}
use Rattle.frame.specs.declared.Temperature.TheVariants.{Degrees, Above, Below, Absent}
use Rattle.frame.specs.Pick.{pick}
use Rattle.frame.specs.Line.{bit, put, mark, three_digits, three_decimal, put_three}

-- What the temperature bits of a line read as: a temperature, or none that is allowed.
pub data Heat : Type 0 where
  told : Temperature → Heat
  bad : Heat

-- Above or below the range of an 1800.
abbrev pub is_above : Temperature → Bool
is_above (Degrees d) = false
is_above Above = true
is_above Below = false
is_above Absent = false

abbrev pub is_below : Temperature → Bool
is_below (Degrees d) = false
is_below Above = false
is_below Below = true
is_below Absent = false

-- A sign and a number of tenths. Zero has one value, whatever its sign.
abbrev pub signed : Bool → ℕ → ℤ
signed true m = pos m
signed false m = neg_ℤ (pos m)

-- Zero is written positive.
abbrev pub is_plus : ℤ → Bool
is_plus (pos n) = true
is_plus (negsuc n) = false

abbrev pub magnitude : ℤ → ℕ
magnitude (pos n) = n
magnitude (negsuc n) = suc n

-- The most that each type can say, with either sign: an 1800 199.9 degrees, a 1900 799.9.
abbrev pub limit : Bool → ℕ
limit is1800 = pick is1800 1999 7999

-- Bit 41 is 1 for positive; tens at 44-47, ones at 48-51, tenths at 52-55.
abbrev pub degrees_at : ℕ → ℕ → Heat
degrees_at n hundreds = pick (three_decimal n 44) (told (Degrees (signed (eqb (bit n 41) 1) (hundreds * 1000 + three_digits n 44)))) bad

abbrev pub put_degrees : Bool → ℕ → ℕ
put_degrees plus m = put (mark plus) 41 + put_three (m % 1000) 44

-- Type 1900: bits 40, 42, 43 are the hundreds' bits 0, 1, 2, each inverted.
abbrev pub hundreds1900 : ℕ → ℕ
hundreds1900 n = (1 - bit n 40) + 2 * (1 - bit n 42) + 4 * (1 - bit n 43)

unfoldable pub heat1900 : ℕ → Heat
heat1900 n = degrees_at n (hundreds1900 n)

abbrev pub put_hundreds_1900 : ℕ → ℕ
put_hundreds_1900 h = put (1 - h % 2) 40 + put (1 - h / 2 % 2) 42 + put (1 - h / 4 % 2) 43

unfoldable pub put_degrees_1900 : Bool → ℕ → ℕ
put_degrees_1900 plus m = put_hundreds_1900 (m / 1000) + put_degrees plus m

-- Beyond the range, or for above and below, the nearer end is written. An absent temperature has no bits.
unfoldable pub put_heat_1900 : Temperature → ℕ
unfolding put_degrees_1900
put_heat_1900 (Degrees d) = put_degrees_1900 (is_plus d) (min (magnitude d) (limit false))
put_heat_1900 Above = put_degrees_1900 true (limit false)
put_heat_1900 Below = put_degrees_1900 false (limit false)
put_heat_1900 Absent = 0

-- Type 1800: above range sets bit 43, below sets bits 43 and 40; sign, hundred and digits are then not read. Bit 40 without 43 is not
-- allowed. Bit 42 is the hundred: 1 means 100.0 more.
unfoldable pub heat1800 : ℕ → Heat
heat1800 n =
    pick (eqb (bit n 43) 1) (pick (eqb (bit n 40) 1) (told Below) (told Above))
    (pick (eqb (bit n 40) 1) bad (degrees_at n (bit n 42)))

-- Beside an error hundred and digits are written 0, the sign 1 above and 0 below.
abbrev pub put_above_1800 : ℕ
put_above_1800 = put 1 41 + put 1 43

abbrev pub put_below_1800 : ℕ
put_below_1800 = put 1 40 + put 1 43

-- Beyond the range is above or below.
unfoldable pub put_degrees_1800 : Bool → ℕ → ℕ
put_degrees_1800 plus m = pick (leb m (limit true)) (put (m / 1000) 42 + put_degrees plus m) (pick plus put_above_1800 put_below_1800)

unfoldable pub put_heat_1800 : Temperature → ℕ
unfolding put_degrees_1800
put_heat_1800 (Degrees d) = put_degrees_1800 (is_plus d) (magnitude d)
put_heat_1800 Above = put_above_1800
put_heat_1800 Below = put_below_1800
put_heat_1800 Absent = 0

-- A temperature by type: 1800 or not.
abbrev pub heat_of : Bool → ℕ → Heat
heat_of is1800 n = pick is1800 (heat1800 n) (heat1900 n)

abbrev pub put_heat : Bool → Temperature → ℕ
put_heat is1800 t = pick is1800 (put_heat_1800 t) (put_heat_1900 t)

abbrev pub is_bad : Heat → Bool
is_bad (told t) = false
is_bad bad = true

-- The temperature that was read, absent where none was.
abbrev pub temperature_of : Heat → Temperature
temperature_of (told t) = t
temperature_of bad = Absent

abbrev pub is_absent : Temperature → Bool
is_absent (Degrees d) = false
is_absent Above = false
is_absent Below = false
is_absent Absent = true
