-- Rows so kept, said by their places and said by the search from the first row on: each gives the other, by induction on the rows.
use mathlib.Core.Path.{◌≡◌, refl, sym, ◌∙◌, ap}
use mathlib.Core.Bool.{Bool, true, false, not, ◌&&◌}
use mathlib.Core.List.{List, [], ◌∷◌}
use Prim.Native.Nat.{ℕ, zero, suc, ◌<◌, ◌≤◌, min}
use native.Mathlib.Omega.{arith}
use lib.ListN.{length, get_or, length-take}
use lib.Seq.{get_or-take}
use borrow.Author.Tests.{not-true}
use Rattle.frame.proofs.Both.{both_left, both_right}
use Rattle.board.specs.declared.Row.{Row}
use Rattle.board.specs.Row.{is_free, is_in_use, free_row}
use Rattle.board.specs.Rows.{board_of}
use Rattle.board.specs.Order.{all_free, in_address_order_from, in_address_order}
use Rattle.board.proofs.Order.{neither, First, first_free, first_used, first-of, kept_free, kept-used}
use Rattle.promises_order.specs.Places.{row_at, OnBoard}
use Rattle.promises_order.specs.Order.{SoKept}

-- Rows that are all free, by their places.
free-at : (rows : List Row) → all_free rows ≡ true → (j : ℕ) → j < length rows → is_free (get_or rows j free_row) ≡ true
unfolding all_free
free-at [] e j l = absurd (omega arith)
free-at (row ∷ rows) e zero l = both_left (is_free row) (all_free rows) e
free-at (row ∷ rows) e (suc j) l = free-at rows (both_right (is_free row) (all_free rows) e) j (omega arith)

at-free : (rows : List Row) → ((j : ℕ) → j < length rows → is_free (get_or rows j free_row) ≡ true) → all_free rows ≡ true
unfolding all_free
at-free [] all = refl
at-free (row ∷ rows) all = ap (λ (t : Bool). t && all_free rows) (all zero (omega arith)) ∙ at-free rows (λ j l. all (suc j) (omega arith))

-- A row in use: its address, and the rows before it.
record Stands (least : ℕ) (rows : List Row) (j : ℕ) : Type 0 where
  high : least ≤ (get_or rows j free_row).address
  front : (i : ℕ) → i < j → is_free (get_or rows i free_row) ≡ false
  rising : (i : ℕ) → i < j → (get_or rows i free_row).address < (get_or rows j free_row).address

abbrev Placed : ℕ → List Row → Type 0
Placed least rows = (j : ℕ) → j < length rows → is_free (get_or rows j free_row) ≡ false → Stands least rows j

stands-first : (least : ℕ) (row : Row) (rows : List Row) → least ≤ row.address → Stands least (row ∷ rows) zero
stands-first least row rows l = record { high = l; front = λ i h. absurd (omega arith); rising = λ i h. absurd (omega arith) }

stands-later : (least : ℕ) (row : Row) (rows : List Row) (j : ℕ) → is_free row ≡ false → least ≤ row.address → Stands (suc row.address) rows j → Stands least (row ∷ rows) (suc j)
stands-later least row rows j f l s =
    record { high = omega (arith, s.high); front = λ i h. front_of i h; rising = λ i h. rising-of i h }
  where
    front_of : (i : ℕ) → i < suc j → is_free (get_or (row ∷ rows) i free_row) ≡ false
    front_of zero h = f
    front_of (suc i) h = s.front i (omega arith)

    rising-of : (i : ℕ) → i < suc j → (get_or (row ∷ rows) i free_row).address < (get_or rows j free_row).address
    rising-of zero h = omega (arith, s.high)
    rising-of (suc i) h = s.rising i (omega arith)

kept-placed : (least : ℕ) (rows : List Row) → in_address_order_from least rows ≡ true → Placed least rows
kept-placed least [] k j l u = absurd (omega arith)
kept-placed least (row ∷ rows) k j l u = go (kept-placed (suc row.address) rows) (first-of least row rows k) j l u
  where
    go : (in_address_order_from (suc row.address) rows ≡ true → Placed (suc row.address) rows) → First least row rows → (j : ℕ) → j < suc (length rows) → is_free (get_or (row ∷ rows) j free_row) ≡ false → Stands least (row ∷ rows) j
    go h (first_free f e) zero l u = neither f u
    go h (first_free f e) (suc j) l u = neither (free-at rows e j (omega arith)) u
    go h (first_used f m e) zero l u = stands-first least row rows m
    go h (first_used f m e) (suc j) l u = stands-later least row rows j f m (h e j (omega arith) u)

placed-kept : (least : ℕ) (rows : List Row) → Placed least rows → in_address_order_from least rows ≡ true
unfolding in_address_order_from
placed-kept least [] p = refl
placed-kept least (row ∷ rows) p = go (placed-kept (suc row.address) rows) (is_free row) refl
  where
    all : is_free row ≡ true → (j : ℕ) → j < length rows → is_free (get_or rows j free_row) ≡ true
    all f j l = by (is_free (get_or rows j free_row)) refl
      where
        by : (t : Bool) → is_free (get_or rows j free_row) ≡ t → t ≡ true
        by true e = refl
        by false e = neither f ((p (suc j) (omega arith) e).front zero (omega arith))

    rest : Placed (suc row.address) rows
    rest j l u =
        let s = p (suc j) (omega arith) u in
        record { high = s.rising zero (omega arith); front = λ i h. s.front (suc i) (omega arith); rising = λ i h. s.rising (suc i) (omega arith) }

    go : (Placed (suc row.address) rows → in_address_order_from (suc row.address) rows ≡ true) → (t : Bool) → is_free row ≡ t → in_address_order_from least (row ∷ rows) ≡ true
    go h true f = kept_free least row rows f (at-free rows (all f))
    go h false f = kept-used least row rows f (p zero (omega arith) f).high (h rest)

-- The same of the rows that were lent.
module _ (rows : List Row) where
  on-length : (j : ℕ) → OnBoard rows j → j < length (board_of rows)
  on-length j p = rw (length-take 30 rows) (omega (arith, p.counts, p.lent))

  length-on : (j : ℕ) → j < length (board_of rows) → OnBoard rows j
  length-on j l = let h : j < min 30 (length rows) = rw (length-take 30 rows) at l in record { counts = omega arith; lent = omega arith }

  at : (j : ℕ) → j < 30 → get_or (board_of rows) j free_row ≡ row_at rows j
  at j l = get_or-take 30 rows j free_row l

  pub so-kept : in_address_order (board_of rows) ≡ true → SoKept rows
  so-kept k =
      record {
        front = λ i j l on u. let s = stands j on u in ap not (sym (ap is_free (at i (omega (arith, on.counts)))) ∙ s.front i l);
        rising = λ i j l on u.
            let s = stands j on u in
            let e = ap (λ (r : Row). r.address) (at i (omega (arith, on.counts))) in
            let f = ap (λ (r : Row). r.address) (at j on.counts) in
            omega (arith, s.rising i l, e, f);
      }
    where
      stands : (j : ℕ) → OnBoard rows j → is_in_use (row_at rows j) ≡ true → Stands 0 (board_of rows) j
      stands j on u = kept-placed 0 (board_of rows) k j (on-length j on) (ap is_free (at j on.counts) ∙ not-true (is_free (row_at rows j)) u)

  pub kept-so : SoKept rows → in_address_order (board_of rows) ≡ true
  kept-so s = placed-kept 0 (board_of rows) placed
    where
      placed : Placed 0 (board_of rows)
      placed j l u =
          let on = length-on j l in
          let used : is_in_use (row_at rows j) ≡ true = ap not (sym (ap is_free (at j on.counts)) ∙ u) in
          record {
            high = omega arith;
            front = λ i h. ap is_free (at i (omega (arith, on.counts))) ∙ not-true (is_free (row_at rows i)) (s.front i j h on used);
            rising = λ i h.
                let e = ap (λ (r : Row). r.address) (at i (omega (arith, on.counts))) in
                let f = ap (λ (r : Row). r.address) (at j on.counts) in
                omega (arith, s.rising i j h on used, e, f);
          }

  pub not-kept : (SoKept rows → ⊥) → in_address_order (board_of rows) ≡ false
  not-kept none = go (in_address_order (board_of rows)) refl
    where
      go : (t : Bool) → in_address_order (board_of rows) ≡ t → t ≡ false
      go true k = absurd (none (so-kept k))
      go false k = refl
