-- 337 days and those of February. Assumes nothing.
use native.Mathlib.Omega.{arith}
use Rattle.calendar.specs.Days.{year_days}
use Rattle.calendar.proofs.leaps.days_of.Goals as goal

pub returns : goal.returns
unfolding year_days
returns c = let february = c.february.ensures in omega arith
