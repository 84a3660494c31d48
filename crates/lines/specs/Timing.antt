-- Document 02, request 01: the timing numbers, in samples.
use Rattle.std.specs.Prelude.{Bool, ◌||◌, not, [], ◌∷◌, ℕ, ltb}
use Rattle.frame.specs.Faults.{◌gives◌, first_of}
use Rattle.frame.specs.Pick.{within}

-- A pulse has least to most samples; an idle run of gap samples closes a message.
pub record Timing : Type 0 where
  pub least : ℕ
  pub most : ℕ
  pub gap : ℕ

abbrev pub timing : (least most gap : ℕ) → Timing
timing least most gap = record { least = least; most = most; gap = gap }

-- Bad timing numbers: least above most, or out of range.
abbrev pub bad_timing : Timing → Bool
bad_timing t =
    ltb t.most t.least || not (within 1 1000 t.least) || not (within 1 1000 t.most) || not (within 1 10000 t.gap)

-- 20 is asked first.
unfoldable pub timing_fault : Timing → ℕ
timing_fault t = first_of (bad_timing t gives 20 ∷ [])

-- A run is counted up to the first number that is too long for every most.
abbrev pub too_long : ℕ
too_long = 1001
