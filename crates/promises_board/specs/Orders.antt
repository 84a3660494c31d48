-- First fault on the board: the lines of the table that bear on each of its calls, and the orders that document 01 asks them in, with what document 02's
-- request 10 adds and what request 11 asks first.
use Rattle.std.specs.Prelude.{not, ◌||◌, List, [], ◌∷◌, ℕ, ltb, length}
use Rattle.frame.specs.Faults.{Test, ◌gives◌}
use Rattle.board.specs.declared.Heard.{Heard}
use Rattle.board.specs.declared.Looked.{Looked}
use Rattle.board.specs.declared.Row.{Row}
use Rattle.board.specs.Gauge.{profile_misplaced, unmarked, at_once}
use Rattle.board.specs.Rows.{board_of, on_board, row_of, has_free}
use Rattle.board.specs.Order.{in_address_order}
use Rattle.board.specs.Calls.{outside_at, Enrols, Hears, Removes, LooksUp, PollsRow}
use Rattle.promises_frame.specs.FirstFault.{FirstThatApplies, reply_table}

abbrev pub enrol_table : List Row → (settings address gauge : ℕ) → List Test
enrol_table rows settings address gauge =
    ltb 15 settings gives 10
    ∷ ltb 999 address gives 11
    ∷ on_board address (board_of rows) gives 18
    ∷ not (has_free (board_of rows)) gives 19
    ∷ profile_misplaced settings gauge gives 27
    ∷ not (in_address_order (board_of rows)) gives 38
    ∷ []

abbrev pub enrol_order : List ℕ
enrol_order = 38 ∷ 10 ∷ 11 ∷ 27 ∷ 18 ∷ 19 ∷ []

-- Of a hearing the lines of a reply that is read are asked by the row's own settings.
abbrev pub hear_table : List Row → (address count : ℕ) → List ℕ → List Test
hear_table rows address count reply =
    not (on_board address (board_of rows)) gives 17
    ∷ outside_at (row_of address (board_of rows)) count reply gives 26
    ∷ not (in_address_order (board_of rows)) gives 38
    ∷ reply_table (row_of address (board_of rows)).settings address count reply

abbrev pub hear_order : List ℕ
hear_order = 38 ∷ 11 ∷ 14 ∷ 17 ∷ 10 ∷ 1 ∷ 2 ∷ 3 ∷ 4 ∷ 5 ∷ 6 ∷ 7 ∷ 8 ∷ 9 ∷ 26 ∷ []

-- A removal, and a look.
abbrev pub find_table : List Row → ℕ → List Test
find_table rows address =
    ltb 999 address gives 11 ∷ not (on_board address (board_of rows)) gives 17 ∷ not (in_address_order (board_of rows)) gives 38 ∷ []

abbrev pub find_order : List ℕ
find_order = 38 ∷ 11 ∷ 17 ∷ []

abbrev pub row_poll_table : List Row → (address raise reset : ℕ) → List ℕ → List Test
row_poll_table rows address raise reset out =
    ltb 999 address gives 11
    ∷ ltb (length out) 2 gives 15
    ∷ not (on_board address (board_of rows)) gives 17
    ∷ (unmarked (row_of address (board_of rows)).gauge raise reset || at_once raise reset) gives 28
    ∷ not (in_address_order (board_of rows)) gives 38
    ∷ []

abbrev pub poll_order : List ℕ
poll_order = 38 ∷ 11 ∷ 17 ∷ 28 ∷ 15 ∷ []

pub record BoardOrders : Type 0 where
  pub enrol : (rows : List Row) (settings address gauge answer : ℕ) (after : List Row) → Enrols rows settings address gauge answer after
      → FirstThatApplies (enrol_table rows settings address gauge) enrol_order answer
  pub hear : (rows : List Row) (minute address count : ℕ) (reply : List ℕ) (answer : Heard) (after : List Row) → Hears rows minute address count reply answer after
      → FirstThatApplies (hear_table rows address count reply) hear_order answer.number
  pub remove : (rows : List Row) (address answer : ℕ) (after : List Row) → Removes rows address answer after → FirstThatApplies (find_table rows address) find_order answer
  pub look : (rows : List Row) (address : ℕ) (answer : Looked) → LooksUp rows address answer → FirstThatApplies (find_table rows address) find_order answer.number
  pub poll : (rows : List Row) (address raise reset : ℕ) (out : List ℕ) (answer : ℕ) (after : List ℕ) → PollsRow rows address raise reset out answer after
      → FirstThatApplies (row_poll_table rows address raise reset out) poll_order answer
