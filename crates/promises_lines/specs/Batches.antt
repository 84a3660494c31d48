-- With the same timing numbers, any batching gives the same messages, reports and end state.
use Rattle.std.specs.Prelude.{◌≡◌, true, false, List, ℕ}
use Rattle.lines.specs.declared.SoFar.{SoFar}
use Rattle.lines.specs.Timing.{Timing, bad_timing}
use Rattle.lines.specs.SoFar.{legal, meant}
use Rattle.promises_lines.specs.History.{Said, History}

pub record Batches : Type 0 where
  pub same : (t : Timing) (from : SoFar) → bad_timing t ≡ false → legal from ≡ true
      → (samples : List ℕ) (told other : List Said) (end last : SoFar)
      → History t from samples told end → History t from samples other last
      → (told ≡ other) × (end ≡ last)
  -- From any state whatever, be it one that no call leaves: the same is told, and what the two ends mean to a later call is the same. (With no call at all a state stays
  -- as it was handed in; a call of no samples leaves what it means.)
  pub from_any : (t : Timing) (from : SoFar) → bad_timing t ≡ false → (samples : List ℕ) (told other : List Said) (end last : SoFar)
      → History t from samples told end → History t from samples other last
      → (told ≡ other) × (meant end ≡ meant last)
