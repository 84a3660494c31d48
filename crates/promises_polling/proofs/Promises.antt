-- Every promise of a round that the recorder runs is proved.
use Rattle.promises_polling.specs.Promises.{PollingPromises}
use Rattle.promises_polling.proofs.Outcome.{polling-outcome, polling-first-fault}
use Rattle.promises_polling.proofs.Batches.{polling-batches}
use Rattle.promises_polling.proofs.Ends.{polling-ends}
use Rattle.promises_polling.proofs.Fit.{fit-to-save}
use Rattle.promises_polling.proofs.Turns.{polls-in-turn}
use Rattle.promises_polling.proofs.Answers.{answers-by-runs}

pub polling-promises : PollingPromises
polling-promises = record { one-outcome = polling-outcome; first-fault = polling-first-fault; batches = polling-batches; ends = polling-ends; fit-to-save = fit-to-save; in-turn = polls-in-turn; answers = answers-by-runs }
