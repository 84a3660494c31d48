-- One outcome: the contract allows one answer, for every state, all timing numbers and all samples.
use Rattle.std.specs.Prelude.{List, ℕ}
use Rattle.lines.specs.declared.SoFar.{SoFar}
use Rattle.lines.specs.declared.LinesTold.{LinesTold}
use Rattle.lines.specs.Calls.{HearsLines}
use Rattle.promises_frame.specs.One.{One}

pub record LinesOutcome : Type 0 where
  pub hear : (s : SoFar) (least most gap : ℕ) (samples : List ℕ) → One LinesTold (HearsLines s least most gap samples)
