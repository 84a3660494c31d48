-- A temperature, a flag and a reading as numbers. Document 01 gives none for them; these are the recorder's own, in every row and answer
-- that a host sees.
use Rattle.std.specs.Prelude.{Bool, not, ℕ, eqb, ℤ, pos}
use Rattle.frame.specs.declared.Reading.{Reading}
use Rattle.frame.specs.declared.Temperature.{Temperature}
use Rattle.frame.specs.declared.Temperature.TheVariants.{Degrees, Above, Below, Absent}
use Rattle.frame.specs.Pick.{pick}

-- A flag is any number but 0.
abbrev pub is_set : ℕ → Bool
is_set n = not (eqb n 0)

-- The kind of a temperature: 1 degrees, 2 above, 3 below, 4 absent. Kind 0 is kept for no reading at all; every other number is absent
-- too, so that every number is read.
abbrev pub kind_of : Temperature → ℕ
kind_of (Degrees d) = 1
kind_of Above = 2
kind_of Below = 3
kind_of Absent = 4

-- In tenths of a degree, 0 where the temperature is no number of degrees.
abbrev pub tenths_of : Temperature → ℤ
tenths_of (Degrees d) = d
tenths_of Above = pos 0
tenths_of Below = pos 0
tenths_of Absent = pos 0

abbrev pub temperature_by : ℕ → ℤ → Temperature
temperature_by kind tenths = pick (eqb kind 1) (Degrees tenths) (pick (eqb kind 2) Above (pick (eqb kind 3) Below Absent))

-- The reading that five numbers tell of.
abbrev pub reading_by : (kind : ℕ) (tenths : ℤ) (level alarm1 alarm0 : ℕ) → Reading
reading_by kind tenths level alarm1 alarm0 =
    record { level = level; temperature = temperature_by kind tenths; alarm1 = is_set alarm1; alarm0 = is_set alarm0 }
