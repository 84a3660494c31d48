-- Which rows move. A row put in or taken out is a row carried over a run of places (the board's own `Carried`), of the lent rows as of the board; what
-- then stands at each place goes by induction on the run. The run's ends are the places that the promise names.
use mathlib.Core.Path.{◌≡◌, refl, sym, ◌∙◌, ap, subst}
use mathlib.Core.Bool.{Bool, true, false, not, ◌||◌}
use mathlib.Core.List.{List, ◌++◌}
use Prim.Native.Nat.{ℕ, zero, suc, ◌+◌, ◌-◌, ◌<◌, ◌≤◌, min}
use native.Mathlib.Omega.{arith}
use lib.Dec.{eqb, leb}
use lib.ListN.{length, get_or, set, length-set, length-take, take-append-drop}
use lib.Seq.{get_or-take, get_or-set_same, get_or-set_other}
use borrow.Author.Tests.{leb-true, leb-false, le-leb, lt-leb, eqb-true, eqb-false, ne_eqb, eq-eqb, not-true}
use Rattle.board.specs.declared.Row.{Row}
use Rattle.board.specs.Row.{is_free, is_in_use, free_row}
use Rattle.board.specs.Rows.{board_of, beyond, holds, place_of, place_free}
use Rattle.board.specs.Order.{in_address_order, insert_row, without_row}
use Rattle.board.specs.Inside.ByValue.{reaches, place_for, carry, onward, backward}
use Rattle.board.proofs.Places.{place_is, place-le, place-before, place_at}
use Rattle.board.proofs.Order.{used-holds}
use Rattle.board.proofs.Carried.{carry-step, carry-front, insert-carry, without-carry, for-le}
use Rattle.promises_frame.proofs.Cases.{by-lt}
use Rattle.promises_order.specs.Places.{row_at, OnBoard}
use Rattle.promises_order.specs.Order.{SoKept, Front, IsPlaceFor, Inserted, Closed, HasFront, front_of, HasPlace, place-for, held-at}

-- What stands at a place after a carry onward.
up-before : (k i : ℕ) (row : Row) (rows : List Row) (j : ℕ) → j < i → get_or (carry 1 0 k i row rows) j free_row ≡ get_or rows j free_row
unfolding carry
up-before zero i row rows j l = refl
up-before (suc k) i row rows j l =
    ap (λ (zs : List Row). get_or zs j free_row) (carry-step 1 0 k i i (suc i) row rows (omega arith) (omega arith))
    ∙ up-before k (suc i) (get_or rows i free_row) (set rows i row) j (omega arith)
    ∙ get_or-set_other rows i j row free_row (λ e. omega arith)

up-there : (k i : ℕ) (row : Row) (rows : List Row) → i < length rows → get_or (carry 1 0 (suc k) i row rows) i free_row ≡ row
up-there k i row rows l =
    ap (λ (zs : List Row). get_or zs i free_row) (carry-step 1 0 k i i (suc i) row rows (omega arith) (omega arith))
    ∙ up-before k (suc i) (get_or rows i free_row) (set rows i row) i (omega arith)
    ∙ get_or-set_same rows i row free_row l

up-moved : (k i : ℕ) (row : Row) (rows : List Row) (j : ℕ) → i + k ≤ length rows → i ≤ j → suc j < i + k → get_or (carry 1 0 k i row rows) (suc j) free_row ≡ get_or rows j free_row
up-moved zero i row rows j w l m = absurd (omega arith)
up-moved (suc zero) i row rows j w l m = absurd (omega arith)
up-moved (suc (suc k)) i row rows j w l m =
    ap (λ (zs : List Row). get_or zs (suc j) free_row) (carry-step 1 0 (suc k) i i (suc i) row rows (omega arith) (omega arith))
    ∙ go (up-moved (suc k) (suc i) (get_or rows i free_row) (set rows i row) j) (eqb j i) refl
  where
    fits : suc i < length (set rows i row)
    fits = omega (arith, length-set rows i row)

    go : (suc i + suc k ≤ length (set rows i row) → suc i ≤ j → suc j < suc i + suc k → get_or (carry 1 0 (suc k) (suc i) (get_or rows i free_row) (set rows i row)) (suc j) free_row ≡ get_or (set rows i row) j free_row)
        → (t : Bool) → eqb j i ≡ t → get_or (carry 1 0 (suc k) (suc i) (get_or rows i free_row) (set rows i row)) (suc j) free_row ≡ get_or rows j free_row
    go h true e =
        let is : j ≡ i = eqb-true j i e in
        ap (λ (n : ℕ). get_or (carry 1 0 (suc k) (suc i) (get_or rows i free_row) (set rows i row)) (suc n) free_row) is ∙ up-there k (suc i) (get_or rows i free_row) (set rows i row) fits ∙ ap (λ (n : ℕ). get_or rows n free_row) (sym is)
    go h false e =
        let ne = eqb-false j i e in
        h (omega (arith, length-set rows i row)) (omega arith) (omega arith) ∙ get_or-set_other rows i j row free_row ne

up-behind : (k i : ℕ) (row : Row) (rows : List Row) (j : ℕ) → i + k ≤ j → get_or (carry 1 0 k i row rows) j free_row ≡ get_or rows j free_row
unfolding carry
up-behind zero i row rows j l = refl
up-behind (suc k) i row rows j l =
    ap (λ (zs : List Row). get_or zs j free_row) (carry-step 1 0 k i i (suc i) row rows (omega arith) (omega arith))
    ∙ up-behind k (suc i) (get_or rows i free_row) (set rows i row) j (omega arith)
    ∙ get_or-set_other rows i j row free_row (λ e. omega arith)

-- And after a carry back.
down-behind : (k i : ℕ) (row : Row) (rows : List Row) (j : ℕ) → k ≤ i → i ≤ j → get_or (carry 0 1 k i row rows) j free_row ≡ get_or rows j free_row
unfolding carry
down-behind zero i row rows j w l = refl
down-behind (suc k) zero row rows j w l = absurd (omega arith)
down-behind (suc k) (suc i) row rows j w l =
    ap (λ (zs : List Row). get_or zs j free_row) (carry-step 0 1 k (suc i) i i row rows (omega arith) (omega arith))
    ∙ down-behind k i (get_or rows i free_row) (set rows i row) j (omega arith) (omega arith)
    ∙ get_or-set_other rows i j row free_row (λ e. omega arith)

down-last : (k i : ℕ) (row : Row) (rows : List Row) → k ≤ i → i < length rows → get_or (carry 0 1 (suc k) (suc i) row rows) i free_row ≡ row
down-last k i row rows w l =
    ap (λ (zs : List Row). get_or zs i free_row) (carry-step 0 1 k (suc i) i i row rows (omega arith) (omega arith))
    ∙ down-behind k i (get_or rows i free_row) (set rows i row) i w (omega arith)
    ∙ get_or-set_same rows i row free_row l

down-moved : (k i : ℕ) (row : Row) (rows : List Row) (j : ℕ) → k ≤ i → i ≤ length rows → i ≤ j + k → suc j < i → get_or (carry 0 1 k i row rows) j free_row ≡ get_or rows (suc j) free_row
down-moved zero i row rows j w f l m = absurd (omega arith)
down-moved (suc k) zero row rows j w f l m = absurd (omega arith)
down-moved (suc k) (suc i) row rows j w f l m =
    ap (λ (zs : List Row). get_or zs j free_row) (carry-step 0 1 k (suc i) i i row rows (omega arith) (omega arith))
    ∙ go (down-moved k i (get_or rows i free_row) (set rows i row) j) (eqb (suc j) i) refl
  where
    go : (k ≤ i → i ≤ length (set rows i row) → i ≤ j + k → suc j < i → get_or (carry 0 1 k i (get_or rows i free_row) (set rows i row)) j free_row ≡ get_or (set rows i row) (suc j) free_row)
        → (t : Bool) → eqb (suc j) i ≡ t → get_or (carry 0 1 k i (get_or rows i free_row) (set rows i row)) j free_row ≡ get_or rows (suc j) free_row
    go h true e = first k (eqb-true (suc j) i e) (omega (arith, eqb-true (suc j) i e)) (omega arith)
      where
        first : (k : ℕ) → suc j ≡ i → 0 < k → k ≤ i → get_or (carry 0 1 k i (get_or rows i free_row) (set rows i row)) j free_row ≡ get_or rows (suc j) free_row
        first zero is p w = absurd (omega arith)
        first (suc n) is p w =
            subst (λ (m : ℕ). get_or (carry 0 1 (suc n) m (get_or rows m free_row) (set rows m row)) j free_row ≡ get_or rows (suc j) free_row) is
            (down-last n j (get_or rows (suc j) free_row) (set rows (suc j) row) (omega arith) (omega (arith, length-set rows (suc j) row, f)))
    go h false e =
        let ne = eqb-false (suc j) i e in
        h (omega arith) (omega (arith, length-set rows i row, f)) (omega arith) (omega arith) ∙ get_or-set_other rows i (suc j) row free_row ne

down-before : (k i : ℕ) (row : Row) (rows : List Row) (j : ℕ) → j + k < i → get_or (carry 0 1 k i row rows) j free_row ≡ get_or rows j free_row
unfolding carry
down-before zero i row rows j l = refl
down-before (suc k) zero row rows j l = absurd (omega arith)
down-before (suc k) (suc i) row rows j l =
    ap (λ (zs : List Row). get_or zs j free_row) (carry-step 0 1 k (suc i) i i row rows (omega arith) (omega arith))
    ∙ down-before k i (get_or rows i free_row) (set rows i row) j (omega arith)
    ∙ get_or-set_other rows i j row free_row (λ e. omega arith)

-- The places that the promise names are those that are searched for.
module _ (rows : List Row) where
  on-length : (j : ℕ) → OnBoard rows j → j < length (board_of rows)
  on-length j p = rw (length-take 30 rows) (omega (arith, p.counts, p.lent))

  length-on : (j : ℕ) → j < length (board_of rows) → OnBoard rows j
  length-on j l = let h : j < min 30 (length rows) = rw (length-take 30 rows) at l in record { counts = omega arith; lent = omega arith }

  at : (j : ℕ) → j < length (board_of rows) → get_or (board_of rows) j free_row ≡ row_at rows j
  at j l = get_or-take 30 rows j free_row (length-on j l).counts

  board-le : length (board_of rows) ≤ length rows
  board-le = let e = length-take 30 rows in omega arith

  module _ (n : ℕ) (front : Front rows n) where
    front-le : n ≤ length (board_of rows)
    front-le = by-lt (length (board_of rows)) n (λ l. let h = on-length (length (board_of rows)) (front.used (length (board_of rows)) l).0 in absurd (omega arith)) (λ l. l)

    used-at : (j : ℕ) → j < n → is_free (get_or (board_of rows) j free_row) ≡ false
    used-at j l = ap is_free (at j (omega (arith, front-le))) ∙ not-true (is_free (row_at rows j)) (front.used j l).1

    front-is : place_free (board_of rows) ≡ n
    front-is = place_is is_free (board_of rows) n front-le used-at (λ l. ap is_free (at n l) ∙ front.free (length-on n l))

    place-for-is : (address i : ℕ) → IsPlaceFor rows address n i → place_for address (board_of rows) ≡ i
    place-for-is address i p =
        place_is (reaches address) (board_of rows) i (omega (arith, front-le, p.within))
        (λ j l. ap (λ (t : Bool). t || leb address (get_or (board_of rows) j free_row).address) (used-at j (omega (arith, p.within)))
        ∙ lt-leb address (get_or (board_of rows) j free_row).address (subst (λ (r : Row). r.address < address) (sym (at j (omega (arith, front-le, p.within)))) (p.before j l)))
        (λ l. by-lt i n
        (λ m. ap (λ (t : Bool). t || leb address (get_or (board_of rows) i free_row).address) (used-at i m)
        ∙ le-leb address (get_or (board_of rows) i free_row).address (below (get_or (board_of rows) i free_row).address (subst (λ (r : Row). address < r.address) (sym (at i l)) (p.behind m))))
        (λ m. let is : i ≡ n = omega (arith, p.within) in
        ap (λ (t : Bool). t || leb address (get_or (board_of rows) i free_row).address) (ap is_free (at i l) ∙ subst (λ (k : ℕ). is_free (row_at rows k) ≡ true) (sym is) (front.free (subst (OnBoard rows) is (length-on i l))))))
      where
        below : (m : ℕ) → address < m → address ≤ m
        below m l = omega arith

    place-of-is : (address i : ℕ) → SoKept rows → i < n → (row_at rows i).address ≡ address → place_of address (board_of rows) ≡ i
    place-of-is address i so l own =
        place_is (holds address) (board_of rows) i (omega (arith, front-le))
        (λ j m. used-holds address (get_or (board_of rows) j free_row) (used-at j (omega arith))
        ∙ ne_eqb (get_or (board_of rows) j free_row).address address (λ e. differs j m (sym (ap (λ (r : Row). r.address) (at j (omega (arith, front-le)))) ∙ e)))
        (λ m. used-holds address (get_or (board_of rows) i free_row) (used-at i l) ∙ eq-eqb (get_or (board_of rows) i free_row).address address (ap (λ (r : Row). r.address) (at i m) ∙ own))
      where
        differs : (j : ℕ) → j < i → (row_at rows j).address ≡ address → ⊥
        differs j m e = let h = so.rising j i m (front.used i l).0 (front.used i l).1 in omega arith

    -- a row put in
    pub inserted : (after : List Row) (new : Row) (i : ℕ) → in_address_order (board_of rows) ≡ true → IsPlaceFor rows new.address n i → place_free (board_of rows) < length (board_of rows) → length (board_of rows) ≤ place_of new.address (board_of rows)
        → after ≡ insert_row new (board_of rows) ++ beyond rows → Inserted rows i n new after
    inserted after new i k p room off e =
        record {
          before = λ j l. ap (λ (zs : List Row). get_or zs j free_row) is ∙ up-before (n - i + 1) i new rows j l;
          there = ap (λ (zs : List Row). get_or zs i free_row) (is ∙ ap (λ (m : ℕ). carry 1 0 m i new rows) one) ∙ up-there (n - i) i new rows (omega (arith, p.within, room, front-is, board-le));
          moved = λ j l m. ap (λ (zs : List Row). get_or zs (suc j) free_row) is ∙ up-moved (n - i + 1) i new rows j (omega (arith, p.within, room, front-is, board-le)) l (omega (arith, p.within));
          behind = λ j l. ap (λ (zs : List Row). get_or zs j free_row) is ∙ up-behind (n - i + 1) i new rows j (omega (arith, p.within));
        }
      where
        one : n - i + 1 ≡ suc (n - i)
        one = omega arith

        is : after ≡ carry 1 0 (n - i + 1) i new rows
        is =
            e ∙ ap (λ (zs : List Row). zs ++ beyond rows) (sym (insert-carry new (board_of rows) room off) ∙ ap (λ (m : ℕ). carry 1 0 (m - place_for new.address (board_of rows) + 1) (place_for new.address (board_of rows)) new (board_of rows)) front-is ∙ ap (λ (m : ℕ). carry 1 0 (n - m + 1) m new (board_of rows)) (place-for-is new.address i p))
            ∙ sym (carry-front 1 0 (n - i + 1) i new (board_of rows) (beyond rows) (onward refl refl (omega (arith, p.within, room, front-is))))
            ∙ ap (carry 1 0 (n - i + 1) i new) (take-append-drop 30 rows)

    -- a row taken out
    pub closed-up : (after : List Row) (address i : ℕ) → in_address_order (board_of rows) ≡ true → SoKept rows → i < n → (row_at rows i).address ≡ address → after ≡ without_row address (board_of rows) ++ beyond rows → Closed rows i n after
    closed-up after address i k so l own e =
        record {
          before = λ j m. ap (λ (zs : List Row). get_or zs j free_row) is ∙ down-before (n - i) n free_row rows j (omega arith);
          moved = λ j m o. ap (λ (zs : List Row). get_or zs j free_row) is ∙ down-moved (n - i) n free_row rows j (omega arith) (omega (arith, front-le, board-le)) (omega arith) o;
          last = λ j m. last j m;
          behind = λ j m. ap (λ (zs : List Row). get_or zs j free_row) is ∙ down-behind (n - i) n free_row rows j (omega arith) m;
        }
      where
        spot : place_of address (board_of rows) ≡ i
        spot = place-of-is address i so l own

        is : after ≡ carry 0 1 (n - i) n free_row rows
        is =
            e ∙ ap (λ (zs : List Row). zs ++ beyond rows) (sym (without-carry address 0 (board_of rows) k (omega (arith, spot, front-le))) ∙ ap (λ (m : ℕ). carry 0 1 (m - place_of address (board_of rows)) m free_row (board_of rows)) front-is ∙ ap (λ (m : ℕ). carry 0 1 (n - m) n free_row (board_of rows)) spot)
            ∙ sym (carry-front 0 1 (n - i) n free_row (board_of rows) (beyond rows) (backward refl refl (omega arith) front-le))
            ∙ ap (carry 0 1 (n - i) n free_row) (take-append-drop 30 rows)

        last : (j : ℕ) → suc j ≡ n → row_at after j ≡ free_row
        last j m =
            let many : n - i ≡ suc (j - i) = omega arith in
            ap (λ (zs : List Row). get_or zs j free_row) (is ∙ ap (λ (x : ℕ). carry 0 1 x n free_row rows) many ∙ ap (λ (x : ℕ). carry 0 1 (suc (j - i)) x free_row rows) (sym m)) ∙ down-last (j - i) j free_row rows (omega arith) (omega (arith, front-le, board-le))

  -- There are such places.
  pub a-front : SoKept rows → HasFront rows
  a-front so = front_of (place_free (board_of rows)) (record { used = λ j l. used j l; free = λ on. sym (ap is_free (at (place_free (board_of rows)) (on-length (place_free (board_of rows)) on))) ∙ place_at is_free (board_of rows) (on-length (place_free (board_of rows)) on) })
    where
      used : (j : ℕ) → j < place_free (board_of rows) → OnBoard rows j × (is_in_use (row_at rows j) ≡ true)
      used j l =
          let m : j < length (board_of rows) = omega (arith, place-le is_free (board_of rows)) in
          (length-on j m, ap not (sym (ap is_free (at j m)) ∙ place-before is_free (board_of rows) j l))

  pub a-place : (address n : ℕ) → Front rows n → HasPlace rows address n
  a-place address n front = go (eqb (row_at rows i).address address) refl
    where
      i : ℕ
      i = place_for address (board_of rows)

      i-le : i ≤ n
      i-le = omega (arith, for-le address (board_of rows), front-is n front)

      low : (j : ℕ) → j < i → (row_at rows j).address < address
      low j l =
          let m : j < length (board_of rows) = omega (arith, i-le, front-le n front) in
          let b : leb address (get_or (board_of rows) j free_row).address ≡ false = sym (ap (λ (t : Bool). t || leb address (get_or (board_of rows) j free_row).address) (used-at n front j (omega (arith, i-le)))) ∙ place-before (reaches address) (board_of rows) j l in
          subst (λ (r : Row). r.address < address) (at j m) (leb-false address (get_or (board_of rows) j free_row).address b)

      high : i < n → address ≤ (row_at rows i).address
      high l =
          let m : i < length (board_of rows) = omega (arith, front-le n front) in
          let b : leb address (get_or (board_of rows) i free_row).address ≡ true = sym (ap (λ (t : Bool). t || leb address (get_or (board_of rows) i free_row).address) (used-at n front i l)) ∙ place_at (reaches address) (board_of rows) m in
          subst (λ (r : Row). address ≤ r.address) (at i m) (leb-true address (get_or (board_of rows) i free_row).address b)

      go : (t : Bool) → eqb (row_at rows i).address address ≡ t → HasPlace rows address n
      go true e = by-lt i n (λ l. held-at i l (eqb-true (row_at rows i).address address e)) (λ l. place-for i (record { within = i-le; before = low; behind = λ m. absurd (omega arith) }))
      go false e =
          let ne = eqb-false (row_at rows i).address address e in
          place-for i (record { within = i-le; before = low; behind = λ m. let h = high m in omega arith })
