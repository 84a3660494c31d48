-- How many samples a call takes: all of them where it tells nothing; else it stops at the sample that closes, no sooner and no later.
use Rattle.std.specs.Prelude.{◌≡◌, false, List, [], ℕ, ◌-◌, ◌<◌, ◌≤◌, length, get_or, take}
use Rattle.lines.specs.declared.SoFar.{SoFar}
use Rattle.lines.specs.declared.LinesTold.{LinesTold}
use Rattle.lines.specs.Timing.{timing, bad_timing}
use Rattle.lines.specs.Calls.{HearsLines}
use Rattle.promises_lines.specs.History.{tellings}

pub record Takes : Type 0 where
  pub all : (s : SoFar) (least most gap : ℕ) (samples : List ℕ) (a : LinesTold) → bad_timing (timing least most gap) ≡ false
      → HearsLines s least most gap samples a → tellings a ≡ [] → a.taken ≡ length samples
  -- The last sample taken is idle, and with one sample fewer nothing is told.
  pub to_the_close : (s : SoFar) (least most gap : ℕ) (samples : List ℕ) (a : LinesTold) → bad_timing (timing least most gap) ≡ false
      → HearsLines s least most gap samples a → (tellings a ≡ [] → ⊥)
      → (0 < a.taken) × (a.taken ≤ length samples) × (get_or samples (a.taken - 1) 1 ≡ 0)
      × ((b : LinesTold) → HearsLines s least most gap (take (a.taken - 1) samples) b → tellings b ≡ [])
