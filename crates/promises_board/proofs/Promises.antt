-- All that is promised of the board, from its parts.
use Rattle.promises_board.specs.Promises.{BoardPromises}
use Rattle.promises_board.proofs.Calls.{board-one-outcome}
use Rattle.promises_board.proofs.Done.{board-cases}
use Rattle.promises_board.proofs.Now.{board-calls, readings-now}
use Rattle.promises_board.proofs.HistoryNow.{history-now, stays-kept}
use Rattle.promises_board.proofs.SinceNow.{since-now}
use Rattle.promises_board.proofs.Unprofiled.{board-profiles}
use Rattle.promises_board.proofs.Orders.{board-orders}
use Rattle.promises_board.proofs.PollsNow.{poll-now}
use Rattle.promises_board.proofs.Free.{board-free}
use Rattle.promises_board.proofs.View.{board-view}

pub board-promises : BoardPromises
board-promises = record { calls = board-calls; cases = board-cases; one-outcome = board-one-outcome; readings = readings-now; history = history-now; stays-kept = stays-kept; since = since-now; profiles = board-profiles; orders = board-orders; poll = poll-now; free = board-free; view = board-view }
