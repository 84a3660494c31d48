-- The days that are left, counted on from the first of the month that is reached, come to the same day, and fewer are left after each step. Assumes nothing.
use mathlib.Core.Path.{◌≡◌}
use Rattle.calendar.specs.Inside.Leaps.{day_of}
use Rattle.calendar.proofs.leaps.Rest.to_january.Given as goal

abbrev pub invariant-loop-r : goal.invariant-loop-r
invariant-loop-r l = day_of l.r ≡ day_of l.fn.self

abbrev pub decreases-loop-r : goal.decreases-loop-r
decreases-loop-r l = l.r.left
