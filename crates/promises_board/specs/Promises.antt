-- All that is promised of the board, of today's calls. That they are answered as the board was before request 11 is `BoardOrder` of `promises_order`.
use Rattle.promises_order.specs.Calls.{today}
use Rattle.promises_board.specs.Calls.{BoardCalls, BoardCases, BoardOneOutcome}
use Rattle.promises_board.specs.Readings.{BoardReadings}
use Rattle.promises_board.specs.History.{BoardHistory}
use Rattle.promises_board.specs.Kept.{BoardStaysKept}
use Rattle.promises_board.specs.Unprofiled.{BoardProfiles}
use Rattle.promises_board.specs.Orders.{BoardOrders}
use Rattle.promises_board.specs.Polls.{BoardPoll}
use Rattle.promises_board.specs.Since.{BoardSince}
use Rattle.promises_board.specs.Free.{BoardFree}
use Rattle.promises_board.specs.View.{BoardView}

pub record BoardPromises : Type 0 where
  pub calls : BoardCalls
  pub cases : BoardCases
  pub one-outcome : BoardOneOutcome
  pub readings : BoardReadings today
  pub history : BoardHistory today
  pub stays-kept : BoardStaysKept
  pub since : BoardSince today
  pub profiles : BoardProfiles
  pub orders : BoardOrders
  pub poll : BoardPoll today
  pub free : BoardFree
  pub view : BoardView
