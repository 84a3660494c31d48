-- Document 01, "The board": which rows count, and which of them a call means.
use Rattle.std.specs.Prelude.{Bool, ◌&&◌, List, [], ◌∷◌, ℕ, zero, suc, eqb, ltb, length, take, drop, get_or}
use Rattle.frame.specs.Pick.{pick}
use Rattle.board.specs.declared.Row.{Row}
use Rattle.board.specs.Row.{is_free, is_in_use, free_row}

-- The board is the first 30 of the rows that the host lends, or all of them where they are fewer. Rows past the thirtieth are never
-- read or written.
abbrev pub board_of : List Row → List Row
board_of rows = take 30 rows

abbrev pub beyond : List Row → List Row
beyond rows = drop 30 rows

-- The place, from 0, of the first row that a test holds of; the number of rows where it holds of none.
unfoldable pub place_by : (Row → Bool) → List Row → ℕ
place_by test [] = zero
place_by test (row ∷ rows) = pick (test row) zero (suc (place_by test rows))

-- A row in use holds an address. What stands in a free row is not asked.
abbrev pub holds : ℕ → Row → Bool
holds address row = is_in_use row && eqb row.address address

-- If two rows in use hold one address, the first counts.
abbrev pub place_of : ℕ → List Row → ℕ
place_of address board = place_by (holds address) board

abbrev pub on_board : ℕ → List Row → Bool
on_board address board = ltb (place_of address board) (length board)

-- The row of an address; a free row where it is not on the board.
abbrev pub row_of : ℕ → List Row → Row
row_of address board = get_or board (place_of address board) free_row

-- The first free row.
abbrev pub place_free : List Row → ℕ
place_free board = place_by is_free board

abbrev pub has_free : List Row → Bool
has_free board = ltb (place_free board) (length board)
