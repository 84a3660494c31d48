-- All that is promised of the lines, each by its own proof.
use Rattle.promises_lines.specs.Promises.{LinesPromises}
use Rattle.promises_lines.proofs.Batches.{batches}
use Rattle.promises_lines.proofs.Takes.{takes}
use Rattle.promises_lines.proofs.States.{begun-again, every-state}
use Rattle.promises_lines.proofs.Numbers.{numbers}
use Rattle.promises_lines.proofs.Form.{form}
use Rattle.promises_lines.proofs.Outcome.{outcome}
use Rattle.promises_lines.proofs.Runs.{runs}
use Rattle.promises_lines.proofs.Drawn.{drawn-then-heard}

pub lines-promises : LinesPromises
lines-promises =
    record {
      batches = batches;
      takes = takes;
      begun-again = begun-again;
      every-state = every-state;
      numbers = numbers;
      form = form;
      one-outcome = outcome;
      runs = runs;
      drawn = drawn-then-heard;
    }
