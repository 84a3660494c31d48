-- What the inner functions of the writer answer. A reader of document 01 need not believe this file.
use Rattle.std.specs.Prelude.{Bool, false, ℕ, ◌+◌, min, ℤ, pos, negsuc}
use Rattle.frame.specs.declared.Reading.{Reading}
use Rattle.frame.specs.declared.Temperature.{Temperature}
use Rattle.frame.specs.declared.Temperature.TheVariants.{Degrees, Above, Below, Absent}
use Rattle.frame.specs.Pick.{pick}
use Rattle.frame.specs.Line.{put, mark, put_three}
use Rattle.frame.specs.Level.{put_level}
use Rattle.frame.specs.Temperature.{limit, is_plus, magnitude, put_degrees_1900, put_degrees_1800}
use Rattle.frame.specs.Reply.{mode_in}

-- A reply up to its temperature.
abbrev pub front_of : ℕ → ℕ → Reading → ℕ
front_of settings address r =
    put 1 1 + put_three address 4 + put_level (mode_in settings) r.level + put (mark r.alarm1) 38
    + put (mark r.alarm0) 39

-- A temperature as a number of tenths: above and below as the ends of what 16 bits hold, both beyond the range of either type.
abbrev pub tenths_for : Temperature → ℤ
tenths_for (Degrees d) = d
tenths_for Above = pos 32767
tenths_for Below = negsuc 32767
tenths_for Absent = pos 0

-- The bits of such a number by type.
abbrev pub put_tenths : Bool → ℤ → ℕ
put_tenths is1800 d =
    pick is1800 (put_degrees_1800 (is_plus d) (magnitude d)) (put_degrees_1900 (is_plus d) (min (magnitude d) (limit false)))
