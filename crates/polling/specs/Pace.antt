-- Our request 16, obligation 2: the timing numbers of a round, in samples, and how often one transmitter is polled.
use Rattle.std.specs.Prelude.{Bool, ◌||◌, not, [], ◌∷◌, ℕ, ltb}
use Rattle.frame.specs.Pick.{within}
use Rattle.frame.specs.Faults.{◌gives◌, first_of}
use Rattle.lines.specs.Timing.{Timing, timing, bad_timing}
use Rattle.drawing.specs.Pulses.{bad_pulse}
use Rattle.polling.specs.declared.Pace.{Pace}

-- The numbers by which request 01 hears the lines.
abbrev pub timing_of : Pace → Timing
timing_of p = timing p.least p.most p.gap

-- Out of range: `low` and `still` as request 15 has them; `delay`, 0 to 1,000,000; `least`, `most` and `gap` as request 01 has them; `wait`, 1 to 1,000,000;
-- `longest`, wait to 10,000,000; `tries`, 1 to 9.
abbrev pub bad_pace : Pace → Bool
bad_pace p =
    bad_pulse p.low p.still || ltb 1000000 p.delay || bad_timing (timing_of p) || not (within 1 1000000 p.wait)
    || not (within p.wait 10000000 p.longest)
    || not (within 1 9 p.tries)

-- 20 is asked first.
unfoldable pub pace_fault : Pace → ℕ
pace_fault p = first_of (bad_pace p gives 20 ∷ [])
