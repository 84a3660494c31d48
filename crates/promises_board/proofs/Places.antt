-- Places said by what stands in the rows, and places that are searched for: each gives the other. The laws of a search are the board's own
-- (`Places`); what is added is that the first 30 of the rows are the rows themselves.
use mathlib.Core.Path.{◌≡◌, refl, sym, ◌∙◌, ap}
use mathlib.Core.Bool.{Bool, true, false, ◌&&◌}
use mathlib.Core.List.{List, ◌++◌}
use Prim.Native.Nat.{ℕ, ◌<◌, ◌≤◌, min}
use native.Mathlib.Omega.{arith}
use lib.Dec.{eqb, ltb}
use lib.ListN.{length, set, get_or, length-take, length-set, take-append-drop}
use lib.Seq.{get_or-take, get_or-set_same, get_or-set_other, set-append_left}
use borrow.Author.Tests.{ltb-true, ltb-false, eqb-true, eq-eqb, not-true}
use Rattle.frame.proofs.Both.{both}
use Rattle.board.specs.declared.Row.{Row}
use Rattle.board.specs.Row.{is_free, is_in_use, free_row}
use Rattle.board.specs.Rows.{board_of, beyond, holds, place_by, place_of, place_free}
use Rattle.board.proofs.Places.{place-le, place-before, place_at, place_is}
use Rattle.promises_order.specs.Places.{row_at, OnBoard}
use Rattle.promises_board.specs.Calls.{Holds, IsRowOf, Unknown, IsFirstFree, NoFree, OnlyRow}

-- A test that fails does not hold.
neither : (a : Bool) → a ≡ true → a ≡ false → ⊥
neither a p q = let z : ◌≡◌ {A = ℕ} 0 1 = cc in omega arith

fails : (a : Bool) → (a ≡ true → ⊥) → a ≡ false
fails true h = absurd (h refl)
fails false h = refl

pub holds-is : (row : Row) (address : ℕ) → holds address row ≡ true → Holds row address
holds-is row address e =
    let p = both (is_in_use row) (eqb row.address address) e in
    record { used = p.0; same = eqb-true row.address address p.1 }

pub is-holds : (row : Row) (address : ℕ) → Holds row address → holds address row ≡ true
is-holds row address h = ap (λ (t : Bool). t && eqb row.address address) h.used ∙ eq-eqb row.address address h.same

module _ (rows : List Row) where
  board-length : length (board_of rows) ≡ min 30 (length rows)
  board-length = length-take 30 rows

  pub on-board : (i : ℕ) → OnBoard rows i → i < length (board_of rows)
  on-board i p = rw board-length (omega (arith, p.counts, p.lent))

  pub board-on : (i : ℕ) → i < length (board_of rows) → OnBoard rows i
  board-on i l = let h : i < min 30 (length rows) = rw board-length at l in record { counts = omega arith; lent = omega arith }

  pub same_row : (i : ℕ) → i < length (board_of rows) → get_or (board_of rows) i free_row ≡ row_at rows i
  same_row i l = get_or-take 30 rows i free_row (board-on i l).counts

  -- a search on the board, by what stands in the rows
  module _ (test : Row → Bool) where
    pub found : (i : ℕ) → OnBoard rows i → test (row_at rows i) ≡ true → ((j : ℕ) → j < i → test (row_at rows j) ≡ false) → place_by test (board_of rows) ≡ i
    found i p here first =
        let l : i < length (board_of rows) = on-board i p in
        place_is test (board_of rows) i (omega arith) (λ j k. ap test (same_row j (omega arith)) ∙ first j k) (λ k. ap test (same_row i l) ∙ here)

    pub missed : ((i : ℕ) → OnBoard rows i → test (row_at rows i) ≡ false) → length (board_of rows) ≤ place_by test (board_of rows)
    missed none = go (ltb (place_by test (board_of rows)) (length (board_of rows))) refl
      where
        go : (t : Bool) → ltb (place_by test (board_of rows)) (length (board_of rows)) ≡ t → length (board_of rows) ≤ place_by test (board_of rows)
        go true e =
            let l : place_by test (board_of rows) < length (board_of rows) = ltb-true _ _ e in
            absurd (neither (test (row_at rows (place_by test (board_of rows)))) (sym (ap test (same_row (place_by test (board_of rows)) l)) ∙ place_at test (board_of rows) l) (none (place_by test (board_of rows)) (board-on (place_by test (board_of rows)) l)))
        go false e = ltb-false _ _ e

    pub at_place : place_by test (board_of rows) < length (board_of rows) → test (row_at rows (place_by test (board_of rows))) ≡ true
    at_place l = sym (ap test (same_row (place_by test (board_of rows)) l)) ∙ place_at test (board_of rows) l

    pub before-place : (j : ℕ) → j < place_by test (board_of rows) → test (row_at rows j) ≡ false
    before-place j k =
        let m : place_by test (board_of rows) ≤ length (board_of rows) = place-le test (board_of rows) in
        sym (ap test (same_row j (omega arith))) ∙ place-before test (board_of rows) j k

  -- the row of an address
  module _ (address : ℕ) where
    pub row-place : (i : ℕ) → IsRowOf rows address i → place_of address (board_of rows) ≡ i
    row-place i p = found (holds address) i p.place (is-holds (row_at rows i) address p.here) (λ j k. fails (holds address (row_at rows j)) (λ e. p.first j k (holds-is (row_at rows j) address e)))

    pub row_on : (i : ℕ) → IsRowOf rows address i → place_of address (board_of rows) < length (board_of rows)
    row_on i p = rw (row-place i p) (on-board i p.place)

    pub place-row : place_of address (board_of rows) < length (board_of rows) → IsRowOf rows address (place_of address (board_of rows))
    place-row l =
        record { place = board-on (place_of address (board_of rows)) l; here = holds-is (row_at rows (place_of address (board_of rows))) address (at_place (holds address) l); first = λ j k h. neither (holds address (row_at rows j)) (is-holds (row_at rows j) address h) (before-place (holds address) j k) }

    pub unknown-off : Unknown rows address → length (board_of rows) ≤ place_of address (board_of rows)
    unknown-off none = missed (holds address) (λ i p. fails (holds address (row_at rows i)) (λ e. none i p (holds-is (row_at rows i) address e)))

    -- a look at a place finds the row that is searched for
    pub row_is : (i : ℕ) → IsRowOf rows address i → get_or (board_of rows) (place_of address (board_of rows)) free_row ≡ row_at rows i
    row_is i p = ap (λ (k : ℕ). get_or (board_of rows) k free_row) (row-place i p) ∙ same_row i (on-board i p.place)

  -- the first free row
  pub free-place : (i : ℕ) → IsFirstFree rows i → place_free (board_of rows) ≡ i
  free-place i p = found is_free i p.place p.free (λ j k. not-true (is_free (row_at rows j)) (p.first j k))

  pub free_on : (i : ℕ) → IsFirstFree rows i → place_free (board_of rows) < length (board_of rows)
  free_on i p = rw (free-place i p) (on-board i p.place)

  pub none_free : NoFree rows → length (board_of rows) ≤ place_free (board_of rows)
  none_free all = missed is_free (λ i p. not-true (is_free (row_at rows i)) (all i p))

  -- what is made of the rows
  pub set-rows : (i : ℕ) (row : Row) → i < length (board_of rows) → set (board_of rows) i row ++ beyond rows ≡ set rows i row
  set-rows i row l = sym (set-append_left (board_of rows) (beyond rows) i row l) ∙ ap (λ (zs : List Row). set zs i row) (take-append-drop 30 rows)

  pub only_row : (i : ℕ) (row : Row) (after : List Row) → i < length (board_of rows) → after ≡ set (board_of rows) i row ++ beyond rows → OnlyRow rows i row after
  only_row i row after l e =
      let is : after ≡ set rows i row = e ∙ set-rows i row l in
      record { own = ap (λ (zs : List Row). row_at zs i) is ∙ get_or-set_same rows i row free_row (board-on i l).lent; others = λ j ne. ap (λ (zs : List Row). row_at zs j) is ∙ get_or-set_other rows i j row free_row ne; as_many = ap length is ∙ length-set rows i row }

  pub unchanged : (after : List Row) → after ≡ board_of rows ++ beyond rows → after ≡ rows
  unchanged after e = e ∙ take-append-drop 30 rows
