-- The day that a month and the days left to count from its first come to.
use Rattle.std.specs.Prelude.{◌≡◌, ◌<◌}
use Rattle.calendar.specs.declared.counting.Day.{Day}
use Rattle.calendar.specs.declared.leaps.Rest.{Rest}
use Rattle.calendar.specs.Days.{first_of_month, days_after}

abbrev pub day_of : Rest → Day
day_of r = days_after (first_of_month r.year r.month) r.left

-- Later in the calendar, with fewer days left, and the same day in the end.
abbrev pub LeapsTo : Rest → Rest → Type 0
LeapsTo from to = (to.left < from.left) × (day_of to ≡ day_of from)
