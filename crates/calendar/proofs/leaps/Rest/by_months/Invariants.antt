-- The days that are left, counted on from the first of the month that is reached, come to the same day, and fewer are left after each step. Assumes nothing.
use mathlib.Core.Path.{◌≡◌}
use Rattle.calendar.specs.Inside.Leaps.{day_of}
use Rattle.calendar.proofs.leaps.Rest.by_months.Given as goal

abbrev pub invariant-loop-next : goal.invariant-loop-next
invariant-loop-next l = day_of l.r ≡ day_of l.fn.self

abbrev pub decreases-loop-next : goal.decreases-loop-next
decreases-loop-next l = l.r.left
