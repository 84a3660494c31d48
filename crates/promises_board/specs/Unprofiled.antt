-- Document 02, request 10: what the request leaves as it was, and how 26 acts on a row.
use Rattle.std.specs.Prelude.{◌≡◌, true, not, ◌&&◌, List, [], ◌∷◌, ◌++◌, ℕ, ◌%◌, eqb, leb, ltb, length, set}
use Rattle.frame.specs.Faults.{◌gives◌, first_of}
use Rattle.frame.specs.Level.{level_of, place_lost}
use Rattle.frame.specs.Line.{line, formed}
use Rattle.frame.specs.Pick.{pick}
use Rattle.frame.specs.Reply.{is1800, mode_in, reply_fault, reading_at}
use Rattle.board.specs.declared.Heard.{Heard}
use Rattle.board.specs.declared.Row.{Row}
use Rattle.board.specs.Row.{row_by, owner_of, reading_kept, heard_at, with_reading, with_fault}
use Rattle.board.specs.Rows.{board_of, beyond, place_of, on_board, row_of}
use Rattle.board.specs.Calls.{Hears, heard_as}
use Rattle.promises_order.specs.Places.{row_at}
use Rattle.promises_order.specs.Order.{SoKept}
use Rattle.promises_board.specs.Calls.{IsRowOf}

-- A hearing as it was before the request: no number after 9, and 1 to 9 alone set a row's fault.
module _ (board : List Row) (minute address count : ℕ) (reply : List ℕ) where
  abbrev pub number_before : ℕ
  number_before =
      first_of
      (ltb 999 address gives 11
      ∷ not (formed count reply) gives 14
      ∷ not (on_board address board) gives 17
      ∷ true gives reply_fault (row_of address board).settings address count reply
      ∷ [])

  abbrev pub place_before : ℕ
  place_before = pick (eqb number_before 7) (place_lost (level_of (mode_in (row_of address board).settings) (line reply))) 0

  abbrev pub rows_before : List Row
  rows_before =
      let row = heard_at (row_of address board) minute in
      pick (eqb number_before 0) (set board (place_of address board) (with_reading row (reading_at row.settings count (line reply)) minute))
      (pick (leb 1 number_before && leb number_before 9) (set board (place_of address board) (with_fault row number_before place_before)) board)

pub record HeardBefore (rows : List Row) (minute address count : ℕ) (reply : List ℕ) (answer : Heard) (after : List Row) : Type 0 where
  pub answers : answer ≡ heard_as (number_before (board_of rows) minute address count reply) (place_before (board_of rows) minute address count reply)
  pub leaves : after ≡ rows_before (board_of rows) minute address count reply ++ beyond rows

-- What is not checked: a row that names no profile, an 1800 row, and a reply with no temperature.
pub data Unchecked (row : Row) (count : ℕ) : Type 0 where
  no-profile : (row.gauge % 4 ≡ 1 → ⊥) → (row.gauge % 4 ≡ 2 → ⊥) → Unchecked row count
  of-1800 : is1800 row.settings ≡ true → Unchecked row count
  no_temperature : count ≡ 40 → Unchecked row count

-- A row with another number for its fault, and nothing else changed.
abbrev pub with_number : ℕ → Row → Row
with_number number row =
    row_by (owner_of row) (reading_kept row) (record { fault = number; place = row.place; faulty = row.faulty; heard = row.heard })

pub record BoardProfiles : Type 0 where
  -- Of rows so kept a hearing of a row that is not checked answers and leaves what it did before the request; so does every hearing on a board whose rows name
  -- no profile.
  pub unprofiled : (rows after : List Row) (minute address count : ℕ) (reply : List ℕ) (answer : Heard) → SoKept rows
      → ((i : ℕ) → IsRowOf rows address i → Unchecked (row_at rows i) count)
      → Hears rows minute address count reply answer after → HeardBefore rows minute address count reply answer after
  -- 26 acts on a row as 9 does: of two hearings of one address at one minute, the rows after 9 are those after 26 but for the number of the fault.
  pub acts_as_9 : (rows after later : List Row) (minute address count bits p q : ℕ) (reply other : List ℕ)
      → Hears rows minute address count reply (heard_as 26 p) after → Hears rows minute address bits other (heard_as 9 q) later
      → (i : ℕ) → IsRowOf rows address i
      → ((row_at after i).fault ≡ 26) × (row_at later i ≡ with_number 9 (row_at after i))
      × ((j : ℕ) → (j ≡ i → ⊥) → row_at later j ≡ row_at after j) × (length later ≡ length after)
