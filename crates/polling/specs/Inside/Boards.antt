-- How the code goes about beginning: from a board by value, an array of 30 rows.
use Rattle.std.specs.Prelude.{◌≡◌, List, ℕ, length}
use Rattle.board.specs.declared.Row.{Row}
use Rattle.board.specs.Order.{if_in_order}
use Rattle.board.specs.Inside.ByValue.{rows_that_count, filled}
use Rattle.lines.specs.SoFar.{rest_state}
use Rattle.round.specs.declared.Polled.{Polled}
use Rattle.polling.specs.declared.Begun.{Begun}
use Rattle.polling.specs.Beginning.{beginning, nothing_begun}
use Rattle.polling.specs.Calls.{begun}

abbrev pub begun_by : List Polled → (count number : ℕ) → Begun
begun_by replies count number =
    begun (record { round = record { replies = replies; count = count }; lines = rest_state; passed = 0; at = 0; tried = 0; listening = 0 }) number

-- The rows are those of some board so long, of which as many count, and free ones behind them.
pub record HoldsBoard (held : List Row) (len : ℕ) : Type 0 where
  pub board : List Row
  pub count : length board ≡ rows_that_count len
  pub is : held ≡ filled board

-- It is begun so from every such board.
pub record BeginsOn (held : List Row) (len minute : ℕ) (answer : Begun) : Type 0 where
  pub on : (board : List Row) → length board ≡ rows_that_count len → held ≡ filled board
      → answer ≡ if_in_order board (begun (beginning minute board) 0) (begun nothing_begun 38)
