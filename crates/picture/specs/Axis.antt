-- The axis of the pictures: whole days, from that of the earliest record to that of the latest, and up to five days said under them.
use Rattle.std.specs.Prelude.{Option, [], ◌∷◌, ℕ, ◌+◌, ◌-◌, ◌*◌, ◌/◌, min}
use Rattle.calendar.specs.declared.counting.Day.{Day}
use Rattle.picture.specs.declared.axis.Axis.{Axis}

-- How many days there are, and how many of them lie between two that are said.
abbrev pub days_shown : ℕ → ℕ → ℕ
days_shown first last = last / 1440 - first / 1440 + 1

abbrev pub step_of : ℕ → ℕ
step_of days = (days + 4) / 5

-- The day of minute 0 where it is given, that of the earliest record, the days said after it, and the minutes of all days, as far as minutes are counted.
unfoldable pub axis_of : Option Day → ℕ → ℕ → Axis
axis_of begin first last =
    let d = first / 1440 in
    let days = days_shown first last in
    let step = step_of days in
    record {
      begin = begin;
      from = d * 1440;
      span = min (1440 * days) 4294967295;
      days = days;
      step = step;
      ticks = d ∷ (d + step) ∷ (d + 2 * step) ∷ (d + 3 * step) ∷ (d + 4 * step) ∷ [];
      shown = (days - 1) / step + 1;
    }
