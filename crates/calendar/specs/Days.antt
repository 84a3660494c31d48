-- The calendar of today: how many days a month has, the day after a day, and the day that comes so many days after one.
use Rattle.std.specs.Prelude.{ℕ, zero, suc, ◌+◌, ◌-◌, ◌%◌, eqb, ltb}
use Rattle.frame.specs.Pick.{pick}
use Rattle.calendar.specs.declared.counting.Day.{Day}

-- February has 29 days in every fourth year, but of the full hundreds only in every fourth.
abbrev pub february_days : ℕ → ℕ
february_days y = pick (eqb (y % 4) 0) (pick (eqb (y % 100) 0) (pick (eqb (y % 400) 0) 29 28) 29) 28

abbrev pub days_in : ℕ → ℕ → ℕ
days_in y m = pick (eqb m 2) (february_days y) (pick (eqb m 4) 30 (pick (eqb m 6) 30 (pick (eqb m 9) 30 (pick (eqb m 11) 30 31))))

-- A year has 337 days beside those of February.
unfoldable pub year_days : ℕ → ℕ
year_days y = 337 + february_days y

-- The month after a month, and its year, which is one more after December.
abbrev pub month_after : ℕ → ℕ
month_after m = pick (ltb m 12) (m + 1) 1

abbrev pub year_after : ℕ → ℕ → ℕ
year_after y m = pick (ltb m 12) y (pick (ltb y 0xffffffff) (y + 1) y)

abbrev pub first_of_month : ℕ → ℕ → Day
first_of_month y m = record { year = y; month = m; day = 1 }

-- The day after: the next of its month, or the first of the next month.
unfoldable pub day_after : Day → Day
day_after d =
    pick
    (ltb d.day (days_in d.year d.month))
    record { year = d.year; month = d.month; day = d.day + 1 }
    (first_of_month (year_after d.year d.month) (month_after d.month))

-- So many days after.
unfoldable pub days_after : Day → ℕ → Day
days_after d zero = d
days_after d (suc n) = day_after (days_after d n)

-- The same, counted from the first of its month. Of a day that its month has they are one; a day beyond its month's last is counted on into the next.
abbrev pub days_from : Day → ℕ → Day
days_from d n = days_after (first_of_month d.year d.month) (n + (d.day - 1))
