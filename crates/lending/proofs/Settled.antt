-- A call over lent rows: what a search found, what the call by value changed and what `put` stored make the call's own outcome. The
-- rows are the board and those beyond it, and what is carried on the board leaves the others.
use Rattle.std.specs.Prelude.{Option, None, Some}
use mathlib.Core.Path.{◌≡◌, refl, sym, ◌∙◌, ap}
use mathlib.Core.List.{List, ◌++◌}
use Prim.Native.Nat.{ℕ, ◌≤◌}
use native.Mathlib.Omega.{arith}
use lib.ListN.{length, take-append-drop}
use Rattle.board.specs.declared.Row.{Row}
use Rattle.board.specs.declared.value.Change.{Change}
use Rattle.board.specs.declared.value.Found.{Found}
use Rattle.board.specs.Rows.{board_of, beyond}
use Rattle.board.specs.Order.{if_in_order}
use Rattle.board.specs.Inside.ByValue.{Finds, up_by, down_by, moved, made, FitsIn, Changes, ChangesOn}
use Rattle.board.proofs.Carried.{within_more, carry-front}
use Rattle.board.proofs.LentRows.{length-counted, counted-le}

module _ (rows : List Row) where
  -- what is carried on the board leaves the rows beyond it
  pub put-on-board : (c : Change) → FitsIn (length (board_of rows)) c → moved c rows ≡ moved c (board_of rows) ++ beyond rows
  put-on-board c fits =
      ap (moved c) (sym (take-append-drop 30 rows)) ∙ carry-front (up_by c.way) (down_by c.way) c.count c.at c.row (board_of rows) (beyond rows) fits

  board-within : length (board_of rows) ≤ length rows
  board-within = omega (arith, length-counted rows, counted-le (length rows))

  -- what is carried on the board, if anything is, leaves the rows beyond it
  made-on-board : (c : Option Change) → ((d : Change) → c ≡ Some d → FitsIn (length (board_of rows)) d) → made c rows ≡ made c (board_of rows) ++ beyond rows
  made-on-board None fits = sym (take-append-drop 30 rows)
  made-on-board (Some c) fits = put-on-board c (fits c refl)

  module _ (address : ℕ) (f : Option Found) (finds : Finds (board_of rows) address f) (Number : List Row → ℕ) (After : List Row → List Row) (n : ℕ) (c : Option Change) (on : ChangesOn f address Number After n c) where
    changes : Changes (board_of rows) (if_in_order (board_of rows) (Number (board_of rows)) 38) (if_in_order (board_of rows) (After (board_of rows)) (board_of rows)) n c
    changes = on.on (board_of rows) finds

    -- the places of the change are among the lent rows
    pub within : (d : Change) → c ≡ Some d → FitsIn (length rows) d
    within d is = within_more board-within (changes.fits d is)

    -- what a call answers and leaves: its change, if it has one, is of what was found, and it was made
    pub settles : (zs : List Row) → zs ≡ made c rows → (n ≡ if_in_order (board_of rows) (Number (board_of rows)) 38) × (zs ≡ if_in_order (board_of rows) (After (board_of rows)) (board_of rows) ++ beyond rows)
    settles zs e =
        (changes.answers, e ∙ made-on-board c changes.fits ∙ ap (λ (bs : List Row). bs ++ beyond rows) changes.leaves)
