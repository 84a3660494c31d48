-- All that is promised of a round that the recorder runs.
use Rattle.promises_polling.specs.Outcome.{PollingOutcome, PollingFirstFault}
use Rattle.promises_polling.specs.Batches.{PollingBatches}
use Rattle.promises_polling.specs.Ends.{PollingEnds}
use Rattle.promises_polling.specs.Fit.{FitToSave}
use Rattle.promises_polling.specs.Turns.{PollsInTurn}
use Rattle.promises_polling.specs.Answers.{AnswersByRuns}

pub record PollingPromises : Type 0 where
  pub one-outcome : PollingOutcome
  pub first-fault : PollingFirstFault
  pub batches : PollingBatches
  pub ends : PollingEnds
  pub fit-to-save : FitToSave
  pub in-turn : PollsInTurn
  pub answers : AnswersByRuns
