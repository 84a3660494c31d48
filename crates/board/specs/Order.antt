-- Document 02, request 11: the board in address order. Rows in use stand in strictly rising address order, free ones at the end; a board not so kept
-- is refused by 38, which every call asks first. Nothing is asked of a row but whether it is in use and, of one in use, its address.
use Rattle.std.specs.Prelude.{Bool, true, ◌&&◌, ◌||◌, List, [], ◌∷◌, ℕ, suc, leb, ltb}
use Rattle.frame.specs.Pick.{pick}
use Rattle.board.specs.declared.Row.{Row}
use Rattle.board.specs.Row.{is_free, free_row}
use Rattle.board.specs.Rows.{holds}

-- Every row is free.
unfoldable pub all_free : List Row → Bool
all_free [] = true
all_free (row ∷ rows) = is_free row && all_free rows

-- The addresses of the rows in use rise, the first being at least so much, and behind the first free row all are free.
unfoldable pub in_address_order_from : ℕ → List Row → Bool
in_address_order_from least [] = true
in_address_order_from least (row ∷ rows) = pick (is_free row) (all_free rows) (leb least row.address && in_address_order_from (suc row.address) rows)

-- A board so kept.
abbrev pub in_address_order : List Row → Bool
in_address_order board = in_address_order_from 0 board

-- What a call answers or leaves, and what it does where the board is not so kept.
abbrev pub if_in_order : {A : Type 0} → List Row → A → A → A
if_in_order board answer refused = pick (in_address_order board) answer refused

-- Rows that make room at their front: each row in use moves on by one, and the first free one is used up. Those behind it stay.
unfoldable pub pushed : Row → List Row → List Row
pushed row [] = []
pushed row (next ∷ rows) = row ∷ pick (is_free next) rows (pushed next rows)

-- A row put before the first greater address, or behind the last row in use.
unfoldable pub insert_row : Row → List Row → List Row
insert_row row [] = []
insert_row row (next ∷ rows) =
    pick (is_free next || ltb row.address next.address) (pushed row (next ∷ rows)) (next ∷ insert_row row rows)

-- Rows that close up to a place left before them: each row in use moves up by one, and the last place so freed is all zeros.
unfoldable pub closed_up : List Row → List Row
closed_up [] = free_row ∷ []
closed_up (row ∷ rows) = pick (is_free row) (free_row ∷ row ∷ rows) (row ∷ closed_up rows)

-- The rows without that of an address.
unfoldable pub without_row : ℕ → List Row → List Row
without_row address [] = []
without_row address (row ∷ rows) = pick (holds address row) (closed_up rows) (row ∷ without_row address rows)
