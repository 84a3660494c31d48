-- Rows by their places, and an empty board.
use Rattle.std.specs.Prelude.{◌≡◌, true, List, ℕ, ◌<◌, length, get_or}
use Rattle.board.specs.declared.Row.{Row}
use Rattle.board.specs.Row.{is_free, free_row}

-- The row at a place, counted from 0; a free row past the last.
abbrev pub row_at : List Row → ℕ → Row
row_at rows i = get_or rows i free_row

-- A place on the board: among the first 30 rows, and a row that was lent.
pub record OnBoard (rows : List Row) (i : ℕ) : Type 0 where
  pub counts : i < 30
  pub lent : i < length rows

-- An empty board: each of its rows is free, whatever else stands in it.
abbrev pub Empty : List Row → Type 0
Empty rows = (i : ℕ) → OnBoard rows i → is_free (row_at rows i) ≡ true
