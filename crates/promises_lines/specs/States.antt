-- Begun again, and every state: after whatever is told the lines are at rest, all zeros; what a call leaves is legal; and a state that no call leaves is
-- a spoiled message, so that bits that nobody heard are never handed over. Nor is any other state legal: each legal one is left by a call from the beginning.
use Rattle.std.specs.Prelude.{◌≡◌, true, false, List, [], ℕ, ◌^◌, ◌<◌}
use Rattle.lines.specs.declared.SoFar.{SoFar}
use Rattle.lines.specs.declared.LinesTold.{LinesTold}
use Rattle.lines.specs.Timing.{timing, bad_timing}
use Rattle.lines.specs.SoFar.{rest_state, spoilt_by, legal}
use Rattle.lines.specs.Calls.{HearsLines}
use Rattle.promises_lines.specs.History.{tellings}

pub record BegunAgain : Type 0 where
  pub at_rest : (s : SoFar) (least most gap : ℕ) (samples : List ℕ) (a : LinesTold) → bad_timing (timing least most gap) ≡ false
      → HearsLines s least most gap samples a → (tellings a ≡ [] → ⊥) → a.so_far ≡ rest_state

pub record EveryState : Type 0 where
  pub beginning : legal rest_state ≡ true
  pub left : (s : SoFar) (least most gap : ℕ) (samples : List ℕ) (a : LinesTold) → bad_timing (timing least most gap) ≡ false
      → HearsLines s least most gap samples a → legal a.so_far ≡ true
  pub strange : (s : SoFar) (least most gap : ℕ) (samples : List ℕ) (a : LinesTold) → bad_timing (timing least most gap) ≡ false
      → legal s ≡ false → HearsLines s least most gap samples a → HearsLines (spoilt_by 21 0) least most gap samples a
  -- Its bits are 64. The call has pulses of one sample and the longest gap.
  pub reached : (s : SoFar) → legal s ≡ true → s.bits < 2 ^ 64
      → (samples : List ℕ) × ((a : LinesTold) → HearsLines rest_state 1 1 10000 samples a → (a.so_far ≡ s) × (tellings a ≡ []))
