-- What is told in numbers comes back as it was. Each law goes by the cases of what is told.
use mathlib.Core.Path.{◌≡◌, refl}
use mathlib.Core.Bool.{Bool, true, false}
use Rattle.frame.specs.declared.Reading.{Reading}
use Rattle.frame.specs.declared.Temperature.{Temperature}
use Rattle.frame.specs.declared.Temperature.TheVariants.{Degrees, Above, Below, Absent}
use Rattle.frame.specs.Line.{mark}
use Rattle.frame.specs.Kinds.{is_set, kind_of, tenths_of, temperature_by, reading_by}

pub flag-back : (b : Bool) → is_set (mark b) ≡ b
flag-back true = refl
flag-back false = refl

pub temperature-back : (t : Temperature) → temperature_by (kind_of t) (tenths_of t) ≡ t
temperature-back (Degrees d) = refl
temperature-back Above = refl
temperature-back Below = refl
temperature-back Absent = refl

pub reading-back : (r : Reading) → reading_by (kind_of r.temperature) (tenths_of r.temperature) r.level (mark r.alarm1) (mark r.alarm0) ≡ r
reading-back r = simp (flag-back, temperature-back)
