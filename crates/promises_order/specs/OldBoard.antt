-- The board as it was before request 11 of document 02, as definitions alone: an enrolment takes the first free row, a removal leaves its row free
-- where it stands, and no order is asked for. The numbers are those that every call asks today once the board is so kept.
use Rattle.std.specs.Prelude.{◌≡◌, List, [], ◌∷◌, ◌++◌, ℕ, eqb, set}
use Rattle.frame.specs.Pick.{pick}
use Rattle.board.specs.declared.Heard.{Heard}
use Rattle.board.specs.declared.Looked.{Looked}
use Rattle.board.specs.declared.Row.{Row}
use Rattle.board.specs.Row.{free_row, new_row}
use Rattle.board.specs.Rows.{board_of, beyond, holds, place_of, place_free}
use Rattle.board.specs.Calls.{enrol_number, hear_number, hear_place, hear_rows, heard_as, find_number, looked_at, row_poll_number, row_poll_bytes}

unfoldable pub old_enrol_rows : List Row → (settings address gauge : ℕ) → List Row
old_enrol_rows board settings address gauge =
    pick (eqb (enrol_number board settings address gauge) 0) (set board (place_free board) (new_row settings address gauge)) board

pub record OldEnrols (rows : List Row) (settings address gauge answer : ℕ) (after : List Row) : Type 0 where
  pub answers : answer ≡ enrol_number (board_of rows) settings address gauge
  pub leaves : after ≡ old_enrol_rows (board_of rows) settings address gauge ++ beyond rows

pub record OldHears (rows : List Row) (minute address count : ℕ) (reply : List ℕ) (answer : Heard) (after : List Row) : Type 0 where
  pub answers : answer ≡ heard_as (hear_number (board_of rows) address count reply) (hear_place (board_of rows) address count reply)
  pub leaves : after ≡ hear_rows (board_of rows) minute address count reply ++ beyond rows

unfoldable pub old_remove_rows : List Row → ℕ → List Row
old_remove_rows board address = pick (eqb (find_number board address) 0) (set board (place_of address board) free_row) board

pub record OldRemoves (rows : List Row) (address answer : ℕ) (after : List Row) : Type 0 where
  pub answers : answer ≡ find_number (board_of rows) address
  pub leaves : after ≡ old_remove_rows (board_of rows) address ++ beyond rows

pub record OldLooksUp (rows : List Row) (address : ℕ) (answer : Looked) : Type 0 where
  pub answers : answer ≡ looked_at (board_of rows) address

pub record OldPollsRow (rows : List Row) (address raise reset : ℕ) (out : List ℕ) (answer : ℕ) (after : List ℕ) : Type 0 where
  pub answers : answer ≡ row_poll_number (board_of rows) address raise reset out
  pub leaves : after ≡ row_poll_bytes (board_of rows) address raise reset out

-- The rows in use that hold an address, wherever they stand.
unfoldable pub rows_held_by : ℕ → List Row → List Row
rows_held_by address [] = []
rows_held_by address (row ∷ rows) = pick (holds address row) (row ∷ rows_held_by address rows) (rows_held_by address rows)
