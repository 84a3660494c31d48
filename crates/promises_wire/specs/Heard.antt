-- What a poll's answer is, by the calls that hear it. Calls of `sisal_hear_lines`, one after another from the lines at rest, take the samples in whatever batches the host
-- has, and none but the last of them tells anything. The reply is what the last one hands over: the bits of a message; or 0 bits, where it tells of a
-- spoiled message, or where it tells nothing and the host waits no longer.
use Rattle.std.specs.Prelude.{List, [], ◌++◌, ℕ, take}
use Rattle.lines.specs.declared.SoFar.{SoFar}
use Rattle.lines.specs.declared.LinesTold.{LinesTold}
use Rattle.lines.specs.Timing.{Timing}
use Rattle.lines.specs.SoFar.{rest_state}
use Rattle.lines.specs.Calls.{HearsLines}
use Rattle.promises_lines.specs.History.{History}
use Rattle.promises_lines.specs.Form.{bytes_in}

-- The samples taken, put end to end, and the reply's bits in the bytes that hold them.
pub data HeardOnLines (t : Timing) : List ℕ → ℕ → List ℕ → Type 0 where
  heard : {samples : List ℕ} {s : SoFar} (batch : List ℕ) (a : LinesTold) → History t rest_state samples [] s
      → HearsLines s t.least t.most t.gap batch a
      → HeardOnLines t (samples ++ take a.taken batch) a.count (bytes_in a)
