-- A row carried over places is a row put among rows so kept, or a row taken out of them; and what is carried on a board leaves the rows beyond it.
-- The laws go by induction on the places, and on the rows before the first of them.
use mathlib.Core.Path.{◌≡◌, refl, sym, ◌∙◌, ap, subst}
use mathlib.Core.Bool.{Bool, true, false, ◌||◌}
use mathlib.Core.List.{List, [], ◌∷◌, ◌++◌}
use Prim.Native.Nat.{ℕ, zero, suc, ◌+◌, ◌-◌, ◌<◌, ◌≤◌}
use native.Mathlib.Omega.{arith}
use lib.Dec.{leb}
use lib.ListN.{length, get_or, set, length-set, get_or-append}
use lib.Seq.{set-append_left}
use borrow.Author.Tests.{le-leb, lt-leb, eqb-false}
use Rattle.frame.specs.Pick.{pick}
use Rattle.board.specs.declared.Row.{Row}
use Rattle.board.specs.Row.{is_free, free_row}
use Rattle.board.specs.Rows.{holds, place_by, place_of, place_free}
use Rattle.board.specs.Order.{in_address_order_from, pushed, insert_row, closed_up, without_row}
use Rattle.board.specs.Inside.ByValue.{reaches, place_for, carry, Within, onward, backward}
use Rattle.board.proofs.Order.{neither, used-holds, holds-used, off_head, room-tail, free_off, First, first_free, first_used, first-of, Put, put_free, put_here, put_behind, put_of, without-by, closed-by}

-- One step, at places that are known by other names.
pub carry-step : (up down k at here next : ℕ) (row : Row) (rows : List Row) → at - down ≡ here → here + up ≡ next → carry up down (suc k) at row rows ≡ carry up down k next (get_or rows here free_row) (set rows here row)
unfolding carry
carry-step up down k at here next row rows e f =
    ap (λ (i : ℕ). carry up down k (i + up) (get_or rows i free_row) (set rows i row)) e ∙ ap (λ (i : ℕ). carry up down k i (get_or rows here free_row) (set rows here row)) f

pub carry-none : (up down at : ℕ) (row : Row) (rows : List Row) → carry up down 0 at row rows ≡ rows
unfolding carry
carry-none up down at row rows = refl

-- one place: the row there is set
pub carry-one : (at : ℕ) (row : Row) (rows : List Row) → carry 1 0 1 at row rows ≡ set rows at row
carry-one at row rows = carry-step 1 0 0 at at (suc at) row rows (omega arith) (omega arith) ∙ carry-none 1 0 (suc at) (get_or rows at free_row) (set rows at row)

pub carry-length : (up down k at : ℕ) (row : Row) (rows : List Row) → length (carry up down k at row rows) ≡ length rows
unfolding carry
carry-length up down zero at row rows = refl
carry-length up down (suc k) at row rows = carry-length up down k (at - down + up) (get_or rows (at - down) free_row) (set rows (at - down) row) ∙ length-set rows (at - down) row

-- Upward.
pub up-cons : (k i : ℕ) (row x : Row) (xs : List Row) → carry 1 0 k (suc i) row (x ∷ xs) ≡ x ∷ carry 1 0 k i row xs
unfolding carry
up-cons zero i row x xs = refl
up-cons (suc k) i row x xs =
    carry-step 1 0 k (suc i) (suc i) (suc (suc i)) row (x ∷ xs) (omega arith) (omega arith)
    ∙ up-cons k (suc i) (get_or xs i free_row) x (set xs i row)
    ∙ sym (ap (λ (zs : List Row). x ∷ zs) (carry-step 1 0 k i i (suc i) row xs (omega arith) (omega arith)))

pub free-place : (t : Bool) (row : Row) (rows : List Row) → is_free row ≡ t → place_free (row ∷ rows) ≡ pick t zero (suc (place_free rows))
unfolding place_by
free-place t row rows e = ap (λ (b : Bool). pick b zero (suc (place_free rows))) e

pub for-place : (t : Bool) (a : ℕ) (row : Row) (rows : List Row) → reaches a row ≡ t → place_for a (row ∷ rows) ≡ pick t zero (suc (place_for a rows))
unfolding place_by
for-place t a row rows e = ap (λ (b : Bool). pick b zero (suc (place_for a rows))) e

pub of-place : (t : Bool) (a : ℕ) (row : Row) (rows : List Row) → holds a row ≡ t → place_of a (row ∷ rows) ≡ pick t zero (suc (place_of a rows))
unfolding place_by
of-place t a row rows e = ap (λ (b : Bool). pick b zero (suc (place_of a rows))) e

pushed-carry : (row : Row) (rows : List Row) → place_free rows < length rows → carry 1 0 (suc (place_free rows)) 0 row rows ≡ pushed row rows
unfolding pushed place_by
pushed-carry row [] f = absurd (omega arith)
pushed-carry row (next ∷ rows) f = go (pushed-carry next rows) (is_free next) refl
  where
    go : (place_free rows < length rows → carry 1 0 (suc (place_free rows)) 0 next rows ≡ pushed next rows) → (t : Bool) → is_free next ≡ t → carry 1 0 (suc (place_free (next ∷ rows))) 0 row (next ∷ rows) ≡ row ∷ pick (is_free next) rows (pushed next rows)
    go rest true e =
        ap (λ (k : ℕ). carry 1 0 (suc k) 0 row (next ∷ rows)) (free-place true next rows e) ∙ carry-one 0 row (next ∷ rows) ∙ sym (ap (λ (b : Bool). row ∷ pick b rows (pushed next rows)) e)
    go rest false e =
        ap (λ (k : ℕ). carry 1 0 (suc k) 0 row (next ∷ rows)) (free-place false next rows e)
        ∙ carry-step 1 0 (suc (place_free rows)) 0 0 1 row (next ∷ rows) refl refl
        ∙ up-cons (suc (place_free rows)) 0 next row rows
        ∙ ap (λ (zs : List Row). row ∷ zs) (rest (room-tail next rows e f))
        ∙ sym (ap (λ (b : Bool). row ∷ pick b rows (pushed next rows)) e)

-- the place for an address is not behind the first free one
pub for-le : (a : ℕ) (rows : List Row) → place_for a rows ≤ place_free rows
unfolding place_by
for-le a [] = omega arith
for-le a (row ∷ rows) = go (is_free row) (leb a row.address) (for-le a rows)
  where
    go : (t s : Bool) → place_for a rows ≤ place_free rows → pick (t || s) zero (suc (place_for a rows)) ≤ pick t zero (suc (place_free rows))
    go true s l = omega arith
    go false true l = omega arith
    go false false l = omega arith

pub or_left : (a b : Bool) → a ≡ true → (a || b) ≡ true
or_left a b e = ap (λ (t : Bool). t || b) e

pub or_right : (a b : Bool) → a ≡ false → (a || b) ≡ b
or_right a b e = ap (λ (t : Bool). t || b) e

-- a row put among others
pub insert-carry : (row : Row) (rows : List Row) → place_free rows < length rows → length rows ≤ place_of row.address rows → carry 1 0 (place_free rows - place_for row.address rows + 1) (place_for row.address rows) row rows ≡ insert_row row rows
unfolding place_by
insert-carry row [] f off = absurd (omega arith)
insert-carry row (next ∷ rows) f off = go (insert-carry row rows) (put_of row next rows)
  where
    parts : (holds row.address next ≡ false) × (length rows ≤ place_of row.address rows)
    parts = off_head row.address next rows off

    shifted : (k i : ℕ) → place_free (next ∷ rows) ≡ k → place_for row.address (next ∷ rows) ≡ i → carry 1 0 (place_free (next ∷ rows) - place_for row.address (next ∷ rows) + 1) (place_for row.address (next ∷ rows)) row (next ∷ rows) ≡ carry 1 0 (k - i + 1) i row (next ∷ rows)
    shifted k i e f = ap (λ (n : ℕ). carry 1 0 (n - place_for row.address (next ∷ rows) + 1) (place_for row.address (next ∷ rows)) row (next ∷ rows)) e ∙ ap (λ (n : ℕ). carry 1 0 (k - n + 1) n row (next ∷ rows)) f

    go : (place_free rows < length rows → length rows ≤ place_of row.address rows → carry 1 0 (place_free rows - place_for row.address rows + 1) (place_for row.address rows) row rows ≡ insert_row row rows) → Put row next rows
        → carry 1 0 (place_free (next ∷ rows) - place_for row.address (next ∷ rows) + 1) (place_for row.address (next ∷ rows)) row (next ∷ rows) ≡ insert_row row (next ∷ rows)
    go rest (put_free e is) =
        shifted 0 0 (free-place true next rows e) (for-place true row.address next rows (or_left (is_free next) (leb row.address next.address) e)) ∙ carry-one 0 row (next ∷ rows) ∙ sym is
    go rest (put_here e less is) =
        shifted (suc (place_free rows)) 0 (free-place false next rows e) (for-place true row.address next rows (or_right (is_free next) (leb row.address next.address) e ∙ le-leb row.address next.address (omega arith)))
        ∙ ap (λ (k : ℕ). carry 1 0 k 0 row (next ∷ rows)) (many (place_free rows))
        ∙ carry-step 1 0 (suc (place_free rows)) 0 0 1 row (next ∷ rows) refl refl
        ∙ up-cons (suc (place_free rows)) 0 next row rows
        ∙ ap (λ (zs : List Row). row ∷ zs) (pushed-carry next rows (room-tail next rows e f))
        ∙ sym is
      where
        many : (n : ℕ) → suc n - 0 + 1 ≡ suc (suc n)
        many n = omega arith
    go rest (put_behind e most is) =
        let ne : next.address ≡ row.address → ⊥ = eqb-false next.address row.address (sym (used-holds row.address next e) ∙ parts.0) in
        shifted (suc (place_free rows)) (suc (place_for row.address rows)) (free-place false next rows e) (for-place false row.address next rows (or_right (is_free next) (leb row.address next.address) e ∙ lt-leb row.address next.address (omega arith)))
        ∙ ap (λ (k : ℕ). carry 1 0 k (suc (place_for row.address rows)) row (next ∷ rows)) (less (place_free rows) (place_for row.address rows))
        ∙ up-cons (place_free rows - place_for row.address rows + 1) (place_for row.address rows) row next rows
        ∙ ap (λ (zs : List Row). next ∷ zs) (rest (room-tail next rows e f) parts.1)
        ∙ sym is
      where
        less : (m n : ℕ) → suc m - suc n + 1 ≡ m - n + 1
        less m n = omega arith

-- Downward.
pub down-cons : (k i : ℕ) (row x : Row) (xs : List Row) → k ≤ i → carry 0 1 k (suc i) row (x ∷ xs) ≡ x ∷ carry 0 1 k i row xs
unfolding carry
down-cons zero i row x xs l = refl
down-cons (suc k) zero row x xs l = absurd (omega arith)
down-cons (suc k) (suc i) row x xs l =
    carry-step 0 1 k (suc (suc i)) (suc i) (suc i) row (x ∷ xs) (omega arith) (omega arith)
    ∙ down-cons k i (get_or xs i free_row) x (set xs i row) (omega arith)
    ∙ sym (ap (λ (zs : List Row). x ∷ zs) (carry-step 0 1 k (suc i) i i row xs (omega arith) (omega arith)))

-- the last step of a carry down to the first place: what stood behind it comes to stand there
down-all : (k : ℕ) (row x y : Row) (ys : List Row) → carry 0 1 (suc (suc k)) (suc (suc k)) row (x ∷ y ∷ ys) ≡ y ∷ carry 0 1 (suc k) (suc k) row (y ∷ ys)
down-all zero row x y ys =
    carry-step 0 1 1 2 1 1 row (x ∷ y ∷ ys) refl refl
    ∙ carry-step 0 1 0 1 0 0 y (x ∷ row ∷ ys) refl refl
    ∙ carry-none 0 1 0 x (y ∷ row ∷ ys)
    ∙ sym (ap (λ (zs : List Row). y ∷ zs) (carry-step 0 1 0 1 0 0 row (y ∷ ys) refl refl ∙ carry-none 0 1 0 y (row ∷ ys)))
down-all (suc k) row x y ys =
    carry-step 0 1 (suc (suc k)) (suc (suc (suc k))) (suc (suc k)) (suc (suc k)) row (x ∷ y ∷ ys) (omega arith) (omega arith)
    ∙ down-all k (get_or ys k free_row) x y (set ys k row)
    ∙ sym (ap (λ (zs : List Row). y ∷ zs) (carry-step 0 1 (suc k) (suc (suc k)) (suc k) (suc k) row (y ∷ ys) (omega arith) (omega arith)))

closed-carry : (x : Row) (rows : List Row) → carry 0 1 (suc (place_free rows)) (suc (place_free rows)) free_row (x ∷ rows) ≡ closed_up rows
unfolding closed_up place_by
closed-carry x [] = carry-step 0 1 0 1 0 0 free_row (x ∷ []) refl refl ∙ carry-none 0 1 0 x (free_row ∷ [])
closed-carry x (row ∷ rows) = go (closed-carry row rows) (is_free row) refl
  where
    go : carry 0 1 (suc (place_free rows)) (suc (place_free rows)) free_row (row ∷ rows) ≡ closed_up rows → (t : Bool) → is_free row ≡ t → carry 0 1 (suc (place_free (row ∷ rows))) (suc (place_free (row ∷ rows))) free_row (x ∷ row ∷ rows) ≡ closed_up (row ∷ rows)
    go rest true e =
        ap (λ (k : ℕ). carry 0 1 (suc k) (suc k) free_row (x ∷ row ∷ rows)) (free-place true row rows e)
        ∙ carry-step 0 1 0 1 0 0 free_row (x ∷ row ∷ rows) refl refl
        ∙ carry-none 0 1 0 x (free_row ∷ row ∷ rows)
        ∙ sym (closed-by true row rows e)
    go rest false e =
        ap (λ (k : ℕ). carry 0 1 (suc k) (suc k) free_row (x ∷ row ∷ rows)) (free-place false row rows e)
        ∙ down-all (place_free rows) free_row x row rows
        ∙ ap (λ (zs : List Row). row ∷ zs) rest
        ∙ sym (closed-by false row rows e)

-- a row taken out of rows so kept
pub without-carry : (a least : ℕ) (rows : List Row) → in_address_order_from least rows ≡ true → place_of a rows < length rows → carry 0 1 (place_free rows - place_of a rows) (place_free rows) free_row rows ≡ without_row a rows
unfolding place_by
without-carry a least [] k l = absurd (omega arith)
without-carry a least (row ∷ rows) k l = go (without-carry a (suc row.address) rows) (holds a row) refl (first-of least row rows k)
  where
    shifted : (m n : ℕ) → place_free (row ∷ rows) ≡ m → place_of a (row ∷ rows) ≡ n → carry 0 1 (place_free (row ∷ rows) - place_of a (row ∷ rows)) (place_free (row ∷ rows)) free_row (row ∷ rows) ≡ carry 0 1 (m - n) m free_row (row ∷ rows)
    shifted m n e f = ap (λ (i : ℕ). carry 0 1 (i - place_of a (row ∷ rows)) i free_row (row ∷ rows)) e ∙ ap (λ (i : ℕ). carry 0 1 (m - i) m free_row (row ∷ rows)) f

    less : (m n : ℕ) → suc m - suc n ≡ m - n
    less m n = omega arith

    all : (m : ℕ) → suc m - 0 ≡ suc m
    all m = omega arith

    go : (in_address_order_from (suc row.address) rows ≡ true → place_of a rows < length rows → carry 0 1 (place_free rows - place_of a rows) (place_free rows) free_row rows ≡ without_row a rows)
        → (t : Bool) → holds a row ≡ t → First least row rows → carry 0 1 (place_free (row ∷ rows) - place_of a (row ∷ rows)) (place_free (row ∷ rows)) free_row (row ∷ rows) ≡ without_row a (row ∷ rows)
    go rest true h (first_free f e) = neither f (holds-used a row h)
    go rest true h (first_used f m e) =
        shifted (suc (place_free rows)) 0 (free-place false row rows f) (of-place true a row rows h)
        ∙ ap (λ (i : ℕ). carry 0 1 i (suc (place_free rows)) free_row (row ∷ rows)) (all (place_free rows))
        ∙ closed-carry row rows
        ∙ sym (without-by true a row rows h)
    go rest false h (first_free f e) =
        let off : length rows ≤ place_of a rows = free_off a rows e in
        let w : place_of a (row ∷ rows) ≡ suc (place_of a rows) = of-place false a row rows h in
        absurd (omega arith)
    go rest false h (first_used f m e) =
        let w : place_of a (row ∷ rows) ≡ suc (place_of a rows) = of-place false a row rows h in
        shifted (suc (place_free rows)) (suc (place_of a rows)) (free-place false row rows f) w
        ∙ ap (λ (i : ℕ). carry 0 1 i (suc (place_free rows)) free_row (row ∷ rows)) (less (place_free rows) (place_of a rows))
        ∙ down-cons (place_free rows - place_of a rows) (place_free rows) free_row row rows (omega arith)
        ∙ ap (λ (zs : List Row). row ∷ zs) (rest e (omega arith))
        ∙ sym (without-by false a row rows h)

-- The next place is within too, and what is carried among the first rows leaves the others.
pub within-here : {n up down k at : ℕ} → Within n up down (suc k) at → (down ≤ at) × (at - down < n)
within-here (onward u d l) = (omega arith, omega arith)
within-here (backward u d l m) = (omega arith, omega arith)

pub within-next : {n up down k at : ℕ} → Within n up down (suc k) at → Within n up down k (at - down + up)
within-next (onward u d l) = onward u d (omega arith)
within-next (backward u d l m) = backward u d (omega arith) (omega arith)

pub within_more : {n m up down k at : ℕ} → n ≤ m → Within n up down k at → Within m up down k at
within_more h (onward u d l) = onward u d (omega arith)
within_more h (backward u d l m) = backward u d l (omega arith)

pub carry-front : (up down k at : ℕ) (row : Row) (xs ys : List Row) → Within (length xs) up down k at → carry up down k at row (xs ++ ys) ≡ carry up down k at row xs ++ ys
unfolding carry
carry-front up down zero at row xs ys w = refl
carry-front up down (suc k) at row xs ys w =
    let l : at - down < length xs = (within-here w).1 in
    ap (λ (r : Row). carry up down k (at - down + up) r (set (xs ++ ys) (at - down) row)) (get_or-append xs ys free_row (at - down) l)
    ∙ ap (carry up down k (at - down + up) (get_or xs (at - down) free_row)) (set-append_left xs ys (at - down) row l)
    ∙ carry-front up down k (at - down + up) (get_or xs (at - down) free_row) (set xs (at - down) row) ys
    (subst (λ (n : ℕ). Within n up down k (at - down + up)) (sym (length-set xs (at - down) row)) (within-next w))

-- A turn of the carry, where places are left.
pub carry-more : (up down k at : ℕ) (row : Row) (rows : List Row) → 0 < k → carry up down k at row rows ≡ carry up down (k - 1) (at - down + up) (get_or rows (at - down) free_row) (set rows (at - down) row)
unfolding carry
carry-more up down zero at row rows l = absurd (omega arith)
carry-more up down (suc k) at row rows l =
    ap (λ (n : ℕ). carry up down n (at - down + up) (get_or rows (at - down) free_row) (set rows (at - down) row)) (less k)
  where
    less : (n : ℕ) → n ≡ suc n - 1
    less n = omega arith

pub within-turn : (n up down k at : ℕ) → 0 < k → Within n up down k at → (down ≤ at) × (at - down < n) × Within n up down (k - 1) (at - down + up)
within-turn n up down zero at l w = absurd (omega arith)
within-turn n up down (suc k) at l w = ((within-here w).0, (within-here w).1, subst (λ (m : ℕ). Within n up down m (at - down + up)) (less k) (within-next w))
  where
    less : (n : ℕ) → n ≡ suc n - 1
    less n = omega arith
