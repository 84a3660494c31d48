-- Document 01's temperatures, with the hundred of an 1800 (document 02, request 06), both ways, for both types: bits 40 to 55 of a line, and the
-- temperature that they read as.
use Rattle.std.specs.Prelude.{◌≡◌, Bool, true, false, ℕ, ◌≤◌, leb}
use Rattle.frame.specs.declared.Temperature.{Temperature}
use Rattle.frame.specs.declared.Temperature.TheVariants.{Degrees, Above, Below, Absent}
use Rattle.frame.specs.Pick.{pick}
use Rattle.frame.specs.Line.{bit}
use Rattle.frame.specs.Temperature.{limit, told, signed, is_plus, magnitude, heat_of, put_heat, is_absent}
use Rattle.promises_frame.specs.NotTold.{NotTold}

-- What a type of transmitter can say: degrees up to its limit with either sign, above and below of an 1800 alone, and in a reply of 40 bits
-- nothing.
abbrev pub InRange : Bool → Temperature → Type 0
InRange is1800 (Degrees d) = magnitude d ≤ limit is1800
InRange is1800 Above = is1800 ≡ true
InRange is1800 Below = is1800 ≡ true
InRange is1800 Absent = Unit {0}

-- What a temperature beyond the range reads back as, by its sign: of an 1800 as above or below, of a 1900 as the nearer end.
abbrev pub beyond_range : Bool → Bool → Temperature
beyond_range true plus = pick plus Above Below
beyond_range false plus = Degrees (signed plus (limit false))

-- What a temperature reads back as once it was written.
abbrev pub read_back : Bool → Temperature → Temperature
read_back is1800 (Degrees d) = pick (leb (magnitude d) (limit is1800)) (Degrees d) (beyond_range is1800 (is_plus d))
read_back is1800 Above = beyond_range is1800 true
read_back is1800 Below = beyond_range is1800 false
read_back is1800 Absent = Absent

pub record TemperatureBothWays : Type 0 where
  -- A temperature, written, reads as `read_back` says, which within the range is the temperature itself.
  pub reads-back : (is1800 : Bool) (t : Temperature) → is_absent t ≡ false
      → heat_of is1800 (put_heat is1800 t) ≡ told (read_back is1800 t)
  pub in-range : (is1800 : Bool) (t : Temperature) → InRange is1800 t → read_back is1800 t ≡ t
  -- A temperature that was read is written with the bits that it was read from, but for the positions not told.
  pub read-then-written : (is1800 : Bool) (n : ℕ) (t : Temperature) → heat_of is1800 n ≡ told t
      → (i : ℕ) → 40 ≤ i → i ≤ 55 → ¬ NotTold is1800 t i
      → bit (put_heat is1800 t) i ≡ bit n i
