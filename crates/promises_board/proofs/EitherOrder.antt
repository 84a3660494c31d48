-- Two hearings of different addresses in either order. A hearing sets one row, to one that holds the same address, or none; so every address keeps its
-- place and the other keeps its row, its number is the same, and two rows at different places are set in either order.
use mathlib.Core.Path.{◌≡◌, refl, sym, ◌∙◌, ap}
use mathlib.Core.Bool.{Bool, true, false}
use mathlib.Core.List.{List, ◌++◌}
use Prim.Native.Nat.{ℕ, ◌<◌}
use native.Mathlib.Omega.{arith}
use lib.Dec.{eqb, ltb}
use lib.ListN.{length, set, get_or, length-set}
use lib.Seq.{get_or-set_same, get_or-set_other, set_out, set_comm}
use borrow.Author.Tests.{eqb-true, eqb-false}
use Rattle.frame.specs.Level.{level_of, place_lost}
use Rattle.frame.specs.Line.{line}
use Rattle.frame.specs.Pick.{pick}
use Rattle.frame.specs.Reply.{mode_in, reading_at}
use Rattle.frame.proofs.Both.{both}
use Rattle.board.specs.declared.Heard.{Heard}
use Rattle.board.specs.declared.Row.{Row}
use Rattle.board.specs.Row.{is_in_use, free_row, heard_at, with_reading, with_fault, sets_fault}
use Rattle.board.specs.Rows.{board_of, beyond, holds, place_of, row_of, on_board}
use Rattle.board.specs.Calls.{hear_number, hear_place, hear_rows, heard_as}
use Rattle.promises_order.specs.OldBoard.{OldHears as Hears}
use Rattle.board.proofs.Places.{place-le, place-before, place_at, place_is}
use Rattle.promises_frame.proofs.Cases.{by-lt}
use Rattle.promises_board.proofs.After.{number_by}
use Rattle.promises_order.proofs.Order.{hear-length, beyond-after}
use Rattle.promises_board.proofs.Free.{board-of}

-- One row set, to a row of which every test holds as of the one before it.
module _ (board : List Row) (p : ℕ) (row : Row) (l : p < length board) (same : (x : ℕ) → holds x row ≡ holds x (get_or board p free_row)) where
  each : (x k : ℕ) → holds x (get_or (set board p row) k free_row) ≡ holds x (get_or board k free_row)
  each x k = go (eqb k p) refl
    where
      go : (t : Bool) → eqb k p ≡ t → holds x (get_or (set board p row) k free_row) ≡ holds x (get_or board k free_row)
      go true e =
          let is : k ≡ p = eqb-true k p e in
          ap (λ (j : ℕ). holds x (get_or (set board p row) j free_row)) is ∙ ap (holds x) (get_or-set_same board p row free_row l) ∙ same x ∙ ap (λ (j : ℕ). holds x (get_or board j free_row)) (sym is)
      go false e = ap (holds x) (get_or-set_other board p k row free_row (eqb-false k p e))

  place_kept : (x : ℕ) → place_of x (set board p row) ≡ place_of x board
  place_kept x =
      place_is (holds x) (set board p row) (place_of x board) (omega (arith, place-le (holds x) board, length-set board p row))
      (λ k m. each x k ∙ place-before (holds x) board k m)
      (λ m. each x (place_of x board) ∙ place_at (holds x) board (omega (arith, length-set board p row)))

-- What a hearing does to a board: it sets the row at a place to one row or another, or does nothing.
abbrev act : Bool → Bool → ℕ → Row → Row → List Row → List Row
act g s p x y zs = pick g (set zs p x) (pick s (set zs p y) zs)

act-length : (g s : Bool) (p : ℕ) (x y : Row) (zs : List Row) → length (act g s p x y zs) ≡ length zs
act-length true s p x y zs = length-set zs p x
act-length false true p x y zs = length-set zs p y
act-length false false p x y zs = refl

module _ (board : List Row) (p q : ℕ) (apart : p < length board → p ≡ q → ⊥) where
  -- rows set at the two places, in either order
  sets-comm : (u v : Row) → set (set board q u) p v ≡ set (set board p v) q u
  sets-comm u v =
      by-lt p (length board) (λ l. set_comm board q p u v (λ e. apart l (sym e)))
      (λ l. set_out (set board q u) p v (omega (arith, length-set board q u)) ∙ ap (λ (zs : List Row). set zs q u) (sym (set_out board p v l)))

  acts-comm : (g s h t : Bool) (x y u v : Row) → act g s p x y (act h t q u v board) ≡ act h t q u v (act g s p x y board)
  acts-comm true s true t x y u v = sets-comm u x
  acts-comm true s false true x y u v = sets-comm v x
  acts-comm true s false false x y u v = refl
  acts-comm false true true t x y u v = sets-comm u y
  acts-comm false true false true x y u v = sets-comm v y
  acts-comm false true false false x y u v = refl
  acts-comm false false true t x y u v = refl
  acts-comm false false false true x y u v = refl
  acts-comm false false false false x y u v = refl

  row_kept : (g s : Bool) (x y : Row) → get_or (act g s p x y board) q free_row ≡ get_or board q free_row
  row_kept true s x y = one x
    where
      one : (row : Row) → get_or (set board p row) q free_row ≡ get_or board q free_row
      one row = by-lt p (length board) (λ l. get_or-set_other board p q row free_row (λ e. apart l (sym e))) (λ l. ap (λ (zs : List Row). get_or zs q free_row) (set_out board p row l))
  row_kept false true x y = one y
    where
      one : (row : Row) → get_or (set board p row) q free_row ≡ get_or board q free_row
      one row = by-lt p (length board) (λ l. get_or-set_other board p q row free_row (λ e. apart l (sym e))) (λ l. ap (λ (zs : List Row). get_or zs q free_row) (set_out board p row l))
  row_kept false false x y = refl

places-kept : (board : List Row) (p : ℕ) (g s : Bool) (x y : Row) → ((c : ℕ) → holds c x ≡ holds c (get_or board p free_row)) → ((c : ℕ) → holds c y ≡ holds c (get_or board p free_row)) → (c : ℕ) → place_of c (act g s p x y board) ≡ place_of c board
places-kept board p true s x y hx hy c = by-lt p (length board) (λ l. place_kept board p x l hx c) (λ l. ap (place_of c) (set_out board p x l))
places-kept board p false true x y hx hy c = by-lt p (length board) (λ l. place_kept board p y l hy c) (λ l. ap (place_of c) (set_out board p y l))
places-kept board p false false x y hx hy c = refl

-- Two rows of a board that hold different addresses stand at different places.
apart-places : (board : List Row) (a b : ℕ) → (a ≡ b → ⊥) → place_of a board < length board → place_of a board ≡ place_of b board → ⊥
apart-places board a b ne l e =
    let at_a = (both (is_in_use (row_of a board)) (eqb (row_of a board).address a) (place_at (holds a) board l)).1 in
    let at_b = (both (is_in_use (row_of b board)) (eqb (row_of b board).address b) (place_at (holds b) board (omega arith))).1 in
    ne (sym (eqb-true (row_of a board).address a at_a) ∙ ap (λ (k : ℕ). (get_or board k free_row).address) e ∙ eqb-true (row_of b board).address b at_b)

-- A hearing as such a step: its number and its place, by whether the address is on the board and which row it has.
module _ (m a k : ℕ) (y : List ℕ) where
  abbrev place_by_7 : ℕ → Row → ℕ
  place_by_7 n row = pick (eqb n 7) (place_lost (level_of (mode_in row.settings) (line y))) 0

  abbrev good_row : Row → Row
  good_row row = with_reading (heard_at row m) (reading_at row.settings k (line y)) m

  abbrev fault_row : Row → ℕ → ℕ → Row
  fault_row row n p = with_fault (heard_at row m) n p

  abbrev step : List Row → ℕ → ℕ → ℕ → Row → List Row
  step zs p n named row = act (eqb n 0) (sets_fault n) p (good_row row) (fault_row row n named) zs

  rows-by : (zs : List Row) → hear_rows zs m a k y ≡ step zs (place_of a zs) (hear_number zs a k y) (hear_place zs a k y) (row_of a zs)
  unfolding hear_rows
  rows-by zs = refl

  -- a board on which the address has the same place, and the same row there
  module _ (zs ws : List Row) (many : length ws ≡ length zs) (spot : place_of a ws ≡ place_of a zs) (there : row_of a ws ≡ row_of a zs) where
    same_number : hear_number ws a k y ≡ hear_number zs a k y
    unfolding hear_number
    same_number =
        ap (λ (t : Bool). number_by a k y t (row_of a ws)) (ap (λ (i : ℕ). ltb i (length ws)) spot ∙ ap (λ (n : ℕ). ltb (place_of a zs) n) many)
        ∙ ap (number_by a k y (on_board a zs)) there

    same-named : hear_place ws a k y ≡ hear_place zs a k y
    unfolding hear_place
    same-named = ap (λ (n : ℕ). place_by_7 n (row_of a ws)) same_number ∙ ap (place_by_7 (hear_number zs a k y)) there

    same_step : hear_rows ws m a k y ≡ step ws (place_of a zs) (hear_number zs a k y) (hear_place zs a k y) (row_of a zs)
    same_step =
        rows-by ws ∙ ap (λ (i : ℕ). step ws i (hear_number ws a k y) (hear_place ws a k y) (row_of a ws)) spot
        ∙ ap (λ (n : ℕ). step ws (place_of a zs) n (hear_place ws a k y) (row_of a ws)) same_number
        ∙ ap (λ (p : ℕ). step ws (place_of a zs) (hear_number zs a k y) p (row_of a ws)) same-named
        ∙ ap (λ (row : Row). step ws (place_of a zs) (hear_number zs a k y) (hear_place zs a k y) row) there

-- On one board, two hearings.
module _ (board : List Row) (m a k : ℕ) (y : List ℕ) (n b l : ℕ) (z : List ℕ) (ne : a ≡ b → ⊥) where
  abbrev after : List Row
  after = hear_rows board m a k y

  abbrev G : Bool
  G = eqb (hear_number board a k y) 0

  abbrev S : Bool
  S = sets_fault (hear_number board a k y)

  abbrev X : Row
  X = good_row m a k y (row_of a board)

  abbrev Y : Row
  Y = fault_row m a k y (row_of a board) (hear_number board a k y) (hear_place board a k y)

  many : length after ≡ length board
  many = ap length (rows-by m a k y board) ∙ act-length G S (place_of a board) X Y board

  spot : place_of b after ≡ place_of b board
  spot = ap (place_of b) (rows-by m a k y board) ∙ places-kept board (place_of a board) G S X Y (λ c. refl) (λ c. refl) b

  there : row_of b after ≡ row_of b board
  there =
      ap (λ (i : ℕ). get_or after i free_row) spot ∙ ap (λ (zs : List Row). get_or zs (place_of b board) free_row) (rows-by m a k y board)
      ∙ row_kept board (place_of a board) (place_of b board) (apart-places board a b ne) G S X Y

  second-number : hear_number after b l z ≡ hear_number board b l z
  second-number = same_number n b l z board after many spot there

  second-named : hear_place after b l z ≡ hear_place board b l z
  second-named = same-named n b l z board after many spot there

  second-rows : hear_rows after n b l z ≡ step n b l z (step m a k y board (place_of a board) (hear_number board a k y) (hear_place board a k y) (row_of a board)) (place_of b board) (hear_number board b l z) (hear_place board b l z) (row_of b board)
  second-rows =
      same_step n b l z board after many spot there
      ∙ ap (λ (zs : List Row). step n b l z zs (place_of b board) (hear_number board b l z) (hear_place board b l z) (row_of b board)) (rows-by m a k y board)

-- The two ways round meet.
pub rows-meet : (board : List Row) (m a k : ℕ) (y : List ℕ) (n b l : ℕ) (z : List ℕ) → (a ≡ b → ⊥) → hear_rows (hear_rows board m a k y) n b l z ≡ hear_rows (hear_rows board n b l z) m a k y
rows-meet board m a k y n b l z ne =
    let en : b ≡ a → ⊥ = λ e. ne (sym e) in
    second-rows board m a k y n b l z ne
    ∙ acts-comm board (place_of b board) (place_of a board) (apart-places board b a en) (G board n b l z m a k y en) (S board n b l z m a k y en) (G board m a k y n b l z ne) (S board m a k y n b l z ne)
    (X board n b l z m a k y en) (Y board n b l z m a k y en) (X board m a k y n b l z ne) (Y board m a k y n b l z ne)
    ∙ sym (second-rows board n b l z m a k y en)

pub either_order : (rows one both other again : List Row) (m a k n b l : ℕ) (y z : List ℕ) (p q r s : Heard) → (a ≡ b → ⊥)
    → Hears rows m a k y p one → Hears one n b l z q both → Hears rows n b l z r other → Hears other m a k y s again
    → (p ≡ s) × (q ≡ r) × (both ≡ again)
either_order rows one both other again m a k n b l y z p q r s ne hp hq hr hs =
    let board : List Row = board_of rows in
    let en : b ≡ a → ⊥ = λ e. ne (sym e) in
    let one-is : board_of one ≡ hear_rows board m a k y = ap board_of hp.leaves ∙ board-of rows (hear_rows board m a k y) (hear-length board m a k y) in
    let other-is : board_of other ≡ hear_rows board n b l z = ap board_of hr.leaves ∙ board-of rows (hear_rows board n b l z) (hear-length board n b l z) in (
      hp.answers ∙ sym (ap (λ (i : ℕ). heard_as i (hear_place board a k y)) (second-number board n b l z m a k y en)) ∙ sym (ap (heard_as (hear_number (hear_rows board n b l z) a k y)) (second-named board n b l z m a k y en))
          ∙ ap (λ (zs : List Row). heard_as (hear_number zs a k y) (hear_place zs a k y)) (sym other-is) ∙ sym hs.answers,
      hq.answers ∙ ap (λ (zs : List Row). heard_as (hear_number zs b l z) (hear_place zs b l z)) one-is
          ∙ ap (λ (i : ℕ). heard_as i (hear_place (hear_rows board m a k y) b l z)) (second-number board m a k y n b l z ne) ∙ ap (heard_as (hear_number board b l z)) (second-named board m a k y n b l z ne) ∙ sym hr.answers,
      hq.leaves ∙ ap (λ (zs : List Row). hear_rows zs n b l z ++ beyond one) one-is ∙ ap (λ (zs : List Row). zs ++ beyond one) (rows-meet board m a k y n b l z ne)
          ∙ ap (λ (zs : List Row). hear_rows zs m a k y ++ beyond one) (sym other-is)
          ∙ ap (λ (zs : List Row). hear_rows (board_of other) m a k y ++ zs) (beyond-after rows one (hear_rows board m a k y) (hear-length board m a k y) hp.leaves ∙ sym (beyond-after rows other (hear_rows board n b l z) (hear-length board n b l z) hr.leaves))
          ∙ sym hs.leaves,
    )
