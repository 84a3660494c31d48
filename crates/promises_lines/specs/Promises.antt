-- All that is promised of the lines.
use Rattle.promises_lines.specs.Batches.{Batches}
use Rattle.promises_lines.specs.Takes.{Takes}
use Rattle.promises_lines.specs.States.{BegunAgain, EveryState}
use Rattle.promises_lines.specs.Numbers.{LineNumbers}
use Rattle.promises_lines.specs.Form.{LinesForm}
use Rattle.promises_lines.specs.Outcome.{LinesOutcome}
use Rattle.promises_lines.specs.Runs.{Runs}
use Rattle.promises_lines.specs.Drawn.{DrawnThenHeard}

pub record LinesPromises : Type 0 where
  pub batches : Batches
  pub takes : Takes
  pub begun-again : BegunAgain
  pub every-state : EveryState
  pub numbers : LineNumbers
  pub form : LinesForm
  pub one-outcome : LinesOutcome
  pub runs : Runs
  pub drawn : DrawnThenHeard
