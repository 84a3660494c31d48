-- The positions that a reading does not tell, as document 01 lists them and request 06 of document 02 mends the list, and what we write there.
use Rattle.std.specs.Prelude.{◌≡◌, Bool, true, false, not, ◌&&◌, ℕ, ◌≤◌, eqb, pos}
use Rattle.frame.specs.declared.Temperature.{Temperature}
use Rattle.frame.specs.declared.Temperature.TheVariants.{Degrees, Above, Below, Absent}
use Rattle.frame.specs.Line.{mark}
use Rattle.frame.specs.Temperature.{is_below}

-- An error of an 1800: above or below its range.
abbrev pub is_range_error : Temperature → Bool
is_range_error (Degrees d) = false
is_range_error Above = true
is_range_error Below = true
is_range_error Absent = false

-- Not told, of a reply of this type with the temperature t: bits 2 and 3; the sign of a zero; sign, hundred (bit 42) and digits beside an 1800
-- error.
pub data NotTold (is1800 : Bool) (t : Temperature) : ℕ → Type 0 where
  bit_2 : NotTold is1800 t 2
  bit_3 : NotTold is1800 t 3
  sign_of_zero : t ≡ Degrees (pos 0) → NotTold is1800 t 41
  sign_beside : is1800 ≡ true → is_range_error t ≡ true → NotTold is1800 t 41
  hundred_beside : is1800 ≡ true → is_range_error t ≡ true → NotTold is1800 t 42
  digits_beside : is1800 ≡ true → is_range_error t ≡ true → (i : ℕ) → 44 ≤ i → i ≤ 55 → NotTold is1800 t i

-- Such a position as we write it: 0, but the sign of a zero and the sign beside above are 1.
abbrev pub as_we_write : Temperature → ℕ → ℕ
as_we_write t i = mark (eqb i 41 && not (is_below t))
