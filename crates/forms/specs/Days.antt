-- Days and moments in words: dates where the day of minute 0 is known, else days counted from it.
use Rattle.std.specs.Prelude.{Option, None, Some, List, [], ◌∷◌, ◌++◌, ℕ, ◌/◌, ◌%◌, ltb}
use Rattle.frame.specs.Pick.{pick}
use Rattle.putting.specs.Digit.{digit}
use Rattle.listing.specs.Text.{ascii, in_decimal}
use Rattle.calendar.specs.declared.counting.Day.{Day}
use Rattle.calendar.specs.Days.{days_from}
use Rattle.forms.specs.Form.{fill}

-- The last two digits of a number.
unfoldable pub two_digits : ℕ → List ℕ
two_digits n = digit (n / 10 % 10) ∷ digit (n % 10) ∷ []

-- A date, "2026-11-03". A year has four digits, or as many more as it needs.
unfoldable pub year_text : ℕ → List ℕ
unfolding two_digits
year_text y = pick (ltb y 10000) (two_digits (y / 100) ++ two_digits (y % 100)) (in_decimal y)

unfoldable pub month_day_text : Day → List ℕ
unfolding two_digits
month_day_text d = two_digits d.month ++ ascii "-" ++ two_digits d.day

unfoldable pub date_text : Day → List ℕ
unfolding year_text month_day_text
date_text d = year_text d.year ++ ascii "-" ++ month_day_text d

-- A day, so many days after that of minute 0; where that is none, "day 2".
unfoldable pub day_text : Option Day → ℕ → List ℕ
unfolding date_text
day_text None n = fill (ascii "day ~") (n ∷ [])
day_text (Some begin) n = date_text (days_from begin n)

-- A minute, counted from the beginning of day 0: "2026-11-03, 06:00", or "day 2, 06:00".
unfoldable pub moment_text : Option Day → ℕ → List ℕ
unfolding day_text two_digits
moment_text begin m = day_text begin (m / 1440) ++ ascii ", " ++ two_digits (m / 60 % 24) ++ ascii ":" ++ two_digits (m % 60)
