-- Document 01, "Fault numbers" and "The board": what each call answers, and what it leaves of the rows. One record for each call
-- fixes both, for all rows of whatever bytes and number. Every call asks 38 first (`Order.antt`); what it then asks stands here.
use Rattle.std.specs.Prelude.{◌≡◌, Bool, not, List, [], ◌∷◌, ◌++◌, ℕ, eqb, ltb, length, drop, set}
use Rattle.frame.specs.Faults.{◌gives◌, first_of}
use Rattle.frame.specs.Kinds.{is_set}
use Rattle.frame.specs.Line.{line, first_bytes, formed}
use Rattle.frame.specs.Pick.{pick}
use Rattle.frame.specs.Level.{level_of, place_lost}
use Rattle.frame.specs.Poll.{poll_line}
use Rattle.frame.specs.Reply.{mode_in, reply_fault, reading_at}
use Rattle.board.specs.declared.Heard.{Heard}
use Rattle.board.specs.declared.Looked.{Looked}
use Rattle.board.specs.declared.Row.{Row}
use Rattle.board.specs.Gauge.{outside_by, profile_misplaced, gauge_told, unmarked, at_once}
use Rattle.board.specs.Row.{Last, last_by, last_of, row_by, kept_as, place_told, heard_at, heard_told, Minute, minute_by, free_row, new_row, with_reading, with_fault, sets_fault}
use Rattle.board.specs.Rows.{board_of, beyond, place_of, on_board, row_of, has_free}
use Rattle.board.specs.Order.{if_in_order, insert_row, without_row}

-- Enrolling: 10, 11, 27, 18, 19. The new row is put among the others by its address; a refused enrolment changes no row.
unfoldable pub enrol_number : List Row → (settings address gauge : ℕ) → ℕ
unfolding first_of
enrol_number board settings address gauge =
    first_of
    (ltb 15 settings gives 10
    ∷ ltb 999 address gives 11
    ∷ profile_misplaced settings gauge gives 27
    ∷ on_board address board gives 18
    ∷ not (has_free board) gives 19
    ∷ [])

unfoldable pub enrol_rows : List Row → (settings address gauge : ℕ) → List Row
enrol_rows board settings address gauge =
    pick (eqb (enrol_number board settings address gauge) 0) (insert_row (new_row settings address gauge) board) board

pub record Enrols (rows : List Row) (settings address gauge : ℕ) (answer : ℕ) (after : List Row) : Type 0 where
  pub answers : answer ≡ if_in_order (board_of rows) (enrol_number (board_of rows) settings address gauge) 38
  pub leaves : after ≡ if_in_order (board_of rows) (enrol_rows (board_of rows) settings address gauge) (board_of rows) ++ beyond rows

-- What reading a reply by a row's own settings byte gives: 10 or 1 to 9, 0 where it is accepted.
abbrev pub fault_by : Row → ℕ → ℕ → List ℕ → ℕ
fault_by row address count reply = reply_fault row.settings address count reply

-- Whether the temperature read is outside the row's profile.
abbrev pub outside_at : Row → ℕ → List ℕ → Bool
outside_at row count reply = outside_by row.settings row.gauge (reading_at row.settings count (line reply)).temperature

-- Hearing: 11, 14, 17, then what reading the reply gives, 10 or 1 to 9, and then 26, of a reply that is accepted so far.
unfoldable pub hear_number : List Row → ℕ → ℕ → List ℕ → ℕ
unfolding first_of
hear_number board address count reply =
    first_of
    (ltb 999 address gives 11
    ∷ not (formed count reply) gives 14
    ∷ not (on_board address board) gives 17
    ∷ not (eqb (fault_by (row_of address board) address count reply) 0) gives fault_by (row_of address board) address count reply
    ∷ outside_at (row_of address board) count reply gives 26
    ∷ [])

-- Document 02, request 02: fault 7 comes with the place of the first digit in no chart. No other number does.
unfoldable pub hear_place : List Row → ℕ → ℕ → List ℕ → ℕ
hear_place board address count reply =
    pick (eqb (hear_number board address count reply) 7) (place_lost (level_of (mode_in (row_of address board).settings) (line reply))) 0

-- A good reply sets reading, minute and fault 0. Faults 1 to 9 and 26 set only the fault, 7 with its place, and are counted. Both set the
-- minute that the row was last heard. 10, 11, 14 and 17 change nothing.
unfoldable pub hear_rows : List Row → (minute address count : ℕ) → List ℕ → List Row
hear_rows board minute address count reply =
    let number = hear_number board address count reply in
    let row = heard_at (row_of address board) minute in
    pick (eqb number 0) (set board (place_of address board) (with_reading row (reading_at row.settings count (line reply)) minute))
    (pick (sets_fault number) (set board (place_of address board) (with_fault row number (hear_place board address count reply))) board)

-- What hearing answers.
abbrev pub heard_as : (number place : ℕ) → Heard
heard_as number place = record { number = number; place = place }

pub record Hears (rows : List Row) (minute address count : ℕ) (reply : List ℕ) (answer : Heard) (after : List Row) : Type 0 where
  pub answers : answer ≡ if_in_order (board_of rows) (heard_as (hear_number (board_of rows) address count reply) (hear_place (board_of rows) address count reply)) (heard_as 38 0)
  pub leaves : after ≡ if_in_order (board_of rows) (hear_rows (board_of rows) minute address count reply) (board_of rows) ++ beyond rows

-- Removing, or looking at a row: 11, 17.
unfoldable pub find_number : List Row → ℕ → ℕ
unfolding first_of
find_number board address = first_of (ltb 999 address gives 11 ∷ not (on_board address board) gives 17 ∷ [])

-- Removing takes the row out, and those behind it move up. A refused removal changes no row.
unfoldable pub remove_rows : List Row → ℕ → List Row
remove_rows board address = pick (eqb (find_number board address) 0) (without_row address board) board

pub record Removes (rows : List Row) (address : ℕ) (answer : ℕ) (after : List Row) : Type 0 where
  pub answers : answer ≡ if_in_order (board_of rows) (find_number (board_of rows) address) 38
  pub leaves : after ≡ if_in_order (board_of rows) (remove_rows (board_of rows) address) (board_of rows) ++ beyond rows

-- What looking answers is laid out as a row is, with the refusal's number, 0 for none, where a row says whether it is in use.
abbrev pub answer_by : ℕ → Row → Looked
answer_by number row =
    record {
      minute = row.minute;
      address = row.address;
      level = row.level;
      tenths = row.tenths;
      settings = row.settings;
      fault = row.fault;
      number = number;
      kind = row.kind;
      alarm1 = row.alarm1;
      alarm0 = row.alarm0;
      heard = row.heard;
      faulty = row.faulty;
      place = row.place;
      gauge = row.gauge;
    }

-- What looking tells of a row: its address, settings and gauge, the last good reading with its minute, the last fault with its place,
-- the count of faulty replies, and the minute it was last heard. It tells what the row holds and not its bytes.
abbrev pub row_told : Row → Looked
row_told row =
    answer_by 0
    (row_by (record { used = 0; address = row.address; settings = row.settings; gauge = gauge_told row.gauge }) (kept_as (last_of row))
    (record { fault = row.fault; place = place_told row; faulty = row.faulty; heard = heard_told row }))

-- A refusal answers its number alone.
abbrev pub refused_look : ℕ → Looked
refused_look number = answer_by number free_row

unfoldable pub looked_at : List Row → ℕ → Looked
looked_at board address =
    pick (eqb (find_number board address) 0) (row_told (row_of address board)) (refused_look (find_number board address))

pub record LooksUp (rows : List Row) (address : ℕ) (answer : Looked) : Type 0 where
  pub answers : answer ≡ if_in_order (board_of rows) (looked_at (board_of rows) address) (refused_look 38)

-- The last good reading that an answer tells of.
abbrev pub last_told : Looked → Last
last_told a = last_by a.kind a.tenths a.level a.alarm1 a.alarm0 a.minute

-- And the minute it was last heard, or none.
abbrev pub minute_told : Looked → Minute
minute_told a = minute_by a.kind a.fault a.heard

-- Document 02, request 10: writing a row's poll, 11, 17, 28, 15. Raise or reset goes only to a marked row, and never both; a poll with
-- neither goes to any row.
unfoldable pub row_poll_number : List Row → (address raise reset : ℕ) → List ℕ → ℕ
unfolding first_of
row_poll_number board address raise reset out =
    first_of
    (ltb 999 address gives 11
    ∷ not (on_board address board) gives 17
    ∷ unmarked (row_of address board).gauge raise reset gives 28
    ∷ at_once raise reset gives 28
    ∷ ltb (length out) 2 gives 15
    ∷ [])

-- Only the first 2 bytes of the output change, and none where it refuses. No row changes: they are lent to be read.
unfoldable pub row_poll_bytes : List Row → (address raise reset : ℕ) → List ℕ → List ℕ
row_poll_bytes board address raise reset out =
    pick (eqb (row_poll_number board address raise reset out) 0)
    (first_bytes 2 (poll_line address (is_set raise) (is_set reset)) ++ drop 2 out) out

pub record PollsRow (rows : List Row) (address raise reset : ℕ) (out : List ℕ) (answer : ℕ) (after : List ℕ) : Type 0 where
  pub answers : answer ≡ if_in_order (board_of rows) (row_poll_number (board_of rows) address raise reset out) 38
  pub leaves : after ≡ if_in_order (board_of rows) (row_poll_bytes (board_of rows) address raise reset out) out
