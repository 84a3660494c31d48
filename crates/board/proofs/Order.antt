-- A board so kept: what is known of its rows, and that it stays so where a row is put among them, taken out, or set to one of the same address.
-- Each law goes by induction on the rows, with the tests of the first row taken apart.
use mathlib.Core.Path.{◌≡◌, refl, sym, ◌∙◌, ap}
use mathlib.Core.Bool.{Bool, true, false, not, ◌&&◌, ◌||◌}
use mathlib.Core.List.{List, [], ◌∷◌}
use Prim.Native.Nat.{ℕ, zero, suc, ◌<◌, ◌≤◌}
use native.Mathlib.Omega.{arith}
use lib.Dec.{eqb, leb, ltb}
use lib.ListN.{length, get_or, set}
use borrow.Author.Tests.{ltb-true, ltb-false, leb-true, le-leb, ne_eqb, eqb-false}
use Rattle.frame.specs.Pick.{pick}
use Rattle.frame.proofs.Both.{both_left, both_right}
use Rattle.board.specs.declared.Row.{Row}
use Rattle.board.specs.Row.{is_free, free_row}
use Rattle.board.specs.Rows.{holds, place_by, place_of, place_free}
use Rattle.board.specs.Order.{all_free, in_address_order_from, pushed, insert_row, closed_up, without_row}

-- A test that both holds and fails.
pub neither : {A : Type 0} {b : Bool} → b ≡ true → b ≡ false → A
neither e f = let z : ◌≡◌ {A = Bool} true false = sym e ∙ f in let bad : ◌≡◌ {A = ℕ} 0 1 = cc in absurd (omega arith)

and_both : (a b : Bool) → a ≡ true → b ≡ true → (a && b) ≡ true
and_both a b e f = ap (λ (t : Bool). t && b) e ∙ f

-- A free row holds no address; a row in use holds its own alone.
pub free-holds : (a : ℕ) (row : Row) → is_free row ≡ true → holds a row ≡ false
free-holds a row f = ap (λ (t : Bool). not t && eqb row.address a) f

pub used-holds : (a : ℕ) (row : Row) → is_free row ≡ false → holds a row ≡ eqb row.address a
used-holds a row f = ap (λ (t : Bool). not t && eqb row.address a) f

pub holds-used : (a : ℕ) (row : Row) → holds a row ≡ true → is_free row ≡ false
holds-used a row h = go (is_free row) refl
  where
    go : (t : Bool) → is_free row ≡ t → t ≡ false
    go true f = neither h (free-holds a row f)
    go false f = refl

-- No row holds an address, taken apart at the first row.
module _ (a : ℕ) (row : Row) (rows : List Row) where
  pub off_head : length (row ∷ rows) ≤ place_of a (row ∷ rows) → (holds a row ≡ false) × (length rows ≤ place_of a rows)
  unfolding place_by
  off_head l = go (holds a row) l
    where
      go : (t : Bool) → suc (length rows) ≤ pick t zero (suc (place_of a rows)) → (t ≡ false) × (length rows ≤ place_of a rows)
      go true l = absurd (omega arith)
      go false l = (refl, omega arith)

  pub off_cons : holds a row ≡ false → length rows ≤ place_of a rows → length (row ∷ rows) ≤ place_of a (row ∷ rows)
  unfolding place_by
  off_cons h l = rw h (omega arith)

-- A free row behind one in use.
pub room-tail : (row : Row) (rows : List Row) → is_free row ≡ false → place_free (row ∷ rows) < length (row ∷ rows) → place_free rows < length rows
unfolding place_by
room-tail row rows f l = go (is_free row) f l
  where
    go : (t : Bool) → t ≡ false → pick t zero (suc (place_free rows)) < suc (length rows) → place_free rows < length rows
    go true e l = neither refl e
    go false e l = omega arith

-- Rows that are all free.
pub free-front : (rows : List Row) → all_free rows ≡ true → place_free rows ≡ 0
unfolding all_free place_by
free-front [] e = refl
free-front (row ∷ rows) e = ap (λ (t : Bool). pick t zero (suc (place_free rows))) (both_left (is_free row) (all_free rows) e)

pub free_off : (a : ℕ) (rows : List Row) → all_free rows ≡ true → length rows ≤ place_of a rows
unfolding all_free place_by
free_off a [] e = omega arith
free_off a (row ∷ rows) e =
    off_cons a row rows (free-holds a row (both_left (is_free row) (all_free rows) e)) (free_off a rows (both_right (is_free row) (all_free rows) e))

pub free-kept : (m : ℕ) (rows : List Row) → all_free rows ≡ true → in_address_order_from m rows ≡ true
unfolding all_free in_address_order_from
free-kept m [] e = refl
free-kept m (row ∷ rows) e =
    ap (λ (t : Bool). pick t (all_free rows) (leb m row.address && in_address_order_from (suc row.address) rows)) (both_left (is_free row) (all_free rows) e)
    ∙ both_right (is_free row) (all_free rows) e

-- The first row of rows so kept: it is free and so are all behind it, or it is in use and the rest rises from its address on.
pub data First (least : ℕ) (row : Row) (rows : List Row) : Type 0 where
  first_free : is_free row ≡ true → all_free rows ≡ true → First least row rows
  first_used : is_free row ≡ false → least ≤ row.address → in_address_order_from (suc row.address) rows ≡ true → First least row rows

pub first-of : (least : ℕ) (row : Row) (rows : List Row) → in_address_order_from least (row ∷ rows) ≡ true → First least row rows
unfolding in_address_order_from
first-of least row rows k = go (is_free row) refl k
  where
    go : (t : Bool) → is_free row ≡ t → pick t (all_free rows) (leb least row.address && in_address_order_from (suc row.address) rows) ≡ true → First least row rows
    go true f k = first_free f k
    go false f k =
        first_used f (leb-true least row.address (both_left (leb least row.address) (in_address_order_from (suc row.address) rows) k))
        (both_right (leb least row.address) (in_address_order_from (suc row.address) rows) k)

pub kept_free : (least : ℕ) (row : Row) (rows : List Row) → is_free row ≡ true → all_free rows ≡ true → in_address_order_from least (row ∷ rows) ≡ true
unfolding in_address_order_from
kept_free least row rows f k = ap (λ (t : Bool). pick t (all_free rows) (leb least row.address && in_address_order_from (suc row.address) rows)) f ∙ k

pub kept-used : (least : ℕ) (row : Row) (rows : List Row) → is_free row ≡ false → least ≤ row.address → in_address_order_from (suc row.address) rows ≡ true → in_address_order_from least (row ∷ rows) ≡ true
unfolding in_address_order_from
kept-used least row rows f l k =
    ap (λ (t : Bool). pick t (all_free rows) (leb least row.address && in_address_order_from (suc row.address) rows)) f
    ∙ and_both (leb least row.address) (in_address_order_from (suc row.address) rows) (le-leb least row.address l) k

pub kept-lower : (m least : ℕ) (rows : List Row) → m ≤ least → in_address_order_from least rows ≡ true → in_address_order_from m rows ≡ true
unfolding in_address_order_from
kept-lower m least [] l k = refl
kept-lower m least (row ∷ rows) l k = go (first-of least row rows k)
  where
    go : First least row rows → in_address_order_from m (row ∷ rows) ≡ true
    go (first_free f e) = kept_free m row rows f e
    go (first_used f h e) = kept-used m row rows f (omega arith) e

-- An address below all of them stands on none of them.
pub low-off : (a least : ℕ) (rows : List Row) → a < least → in_address_order_from least rows ≡ true → length rows ≤ place_of a rows
unfolding place_by
low-off a least [] l k = omega arith
low-off a least (row ∷ rows) l k = go (low-off a (suc row.address) rows) (first-of least row rows k)
  where
    go : (a < suc row.address → in_address_order_from (suc row.address) rows ≡ true → length rows ≤ place_of a rows) → First least row rows → length (row ∷ rows) ≤ place_of a (row ∷ rows)
    go rest (first_free f e) = off_cons a row rows (free-holds a row f) (free_off a rows e)
    go rest (first_used f h e) = off_cons a row rows (used-holds a row f ∙ ne_eqb row.address a (λ q. omega arith)) (rest (omega arith) e)

-- A row put in front.
pushed-kept : (m : ℕ) (row : Row) (rows : List Row) → is_free row ≡ false → m ≤ row.address → place_free rows < length rows → in_address_order_from (suc row.address) rows ≡ true → in_address_order_from m (pushed row rows) ≡ true
unfolding pushed place_by
pushed-kept m row [] u l f k = absurd (omega arith)
pushed-kept m row (next ∷ rows) u l f k = go (pushed-kept (suc row.address) next rows) (first-of (suc row.address) next rows k)
  where
    go : (is_free next ≡ false → suc row.address ≤ next.address → place_free rows < length rows → in_address_order_from (suc next.address) rows ≡ true → in_address_order_from (suc row.address) (pushed next rows) ≡ true)
        → First (suc row.address) next rows → in_address_order_from m (row ∷ pick (is_free next) rows (pushed next rows)) ≡ true
    go rest (first_free e all) = ap (λ (t : Bool). in_address_order_from m (row ∷ pick t rows (pushed next rows))) e ∙ kept-used m row rows u l (free-kept (suc row.address) rows all)
    go rest (first_used e h all) =
        ap (λ (t : Bool). in_address_order_from m (row ∷ pick t rows (pushed next rows))) e ∙ kept-used m row (pushed next rows) u l (rest e h (room-tail next rows e f) all)

insert-by : (t : Bool) (row next : Row) (rows : List Row) → (is_free next || ltb row.address next.address) ≡ t → insert_row row (next ∷ rows) ≡ pick t (pushed row (next ∷ rows)) (next ∷ insert_row row rows)
unfolding insert_row
insert-by t row next rows e = ap (λ (b : Bool). pick b (pushed row (next ∷ rows)) (next ∷ insert_row row rows)) e

or_right : (a b : Bool) → a ≡ false → (a || b) ≡ b
or_right a b e = ap (λ (t : Bool). t || b) e

-- Where a row is put: at the first row, which is free or has a greater address, or behind it.
pub data Put (row next : Row) (rows : List Row) : Type 0 where
  put_free : is_free next ≡ true → insert_row row (next ∷ rows) ≡ row ∷ rows → Put row next rows
  put_here : is_free next ≡ false → row.address < next.address → insert_row row (next ∷ rows) ≡ row ∷ pushed next rows → Put row next rows
  put_behind : is_free next ≡ false → next.address ≤ row.address → insert_row row (next ∷ rows) ≡ next ∷ insert_row row rows → Put row next rows

pub put_of : (row next : Row) (rows : List Row) → Put row next rows
unfolding pushed
put_of row next rows = go (is_free next) refl (ltb row.address next.address) refl
  where
    go : (t : Bool) → is_free next ≡ t → (s : Bool) → ltb row.address next.address ≡ s → Put row next rows
    go true e s f = put_free e (insert-by true row next rows (ap (λ (b : Bool). b || ltb row.address next.address) e) ∙ ap (λ (b : Bool). row ∷ pick b rows (pushed next rows)) e)
    go false e true f = put_here e (ltb-true _ _ f) (insert-by true row next rows (or_right _ _ e ∙ f) ∙ ap (λ (b : Bool). row ∷ pick b rows (pushed next rows)) e)
    go false e false f = put_behind e (ltb-false _ _ f) (insert-by false row next rows (or_right _ _ e ∙ f))

pub insert-kept : (least : ℕ) (row : Row) (rows : List Row) → is_free row ≡ false → least ≤ row.address → place_free rows < length rows → length rows ≤ place_of row.address rows → in_address_order_from least rows ≡ true → in_address_order_from least (insert_row row rows) ≡ true
unfolding place_by
insert-kept least row [] u l f off k = absurd (omega arith)
insert-kept least row (next ∷ rows) u l f off k = go (insert-kept (suc next.address) row rows u) (put_of row next rows) (first-of least next rows k)
  where
    parts : (holds row.address next ≡ false) × (length rows ≤ place_of row.address rows)
    parts = off_head row.address next rows off

    go : (suc next.address ≤ row.address → place_free rows < length rows → length rows ≤ place_of row.address rows → in_address_order_from (suc next.address) rows ≡ true → in_address_order_from (suc next.address) (insert_row row rows) ≡ true)
        → Put row next rows → First least next rows → in_address_order_from least (insert_row row (next ∷ rows)) ≡ true
    go rest (put_free e is) (first_free e' all) = ap (in_address_order_from least) is ∙ kept-used least row rows u l (free-kept (suc row.address) rows all)
    go rest (put_free e is) (first_used e' h all) = neither e e'
    go rest (put_here e less is) (first_free e' all) = neither e' e
    go rest (put_here e less is) (first_used e' h all) =
        ap (in_address_order_from least) is ∙ kept-used least row (pushed next rows) u l (pushed-kept (suc row.address) next rows e (omega arith) (room-tail next rows e f) all)
    go rest (put_behind e most is) (first_free e' all) = neither e' e
    go rest (put_behind e most is) (first_used e' h all) =
        let ne : next.address ≡ row.address → ⊥ = eqb-false next.address row.address (sym (used-holds row.address next e) ∙ parts.0) in
        ap (in_address_order_from least) is ∙ kept-used least next (insert_row row rows) e h (rest (omega arith) (room-tail next rows e f) parts.1 all)

-- A row taken out.
pub closed-by : (t : Bool) (row : Row) (rows : List Row) → is_free row ≡ t → closed_up (row ∷ rows) ≡ pick t (free_row ∷ row ∷ rows) (row ∷ closed_up rows)
unfolding closed_up
closed-by t row rows e = ap (λ (b : Bool). pick b (free_row ∷ row ∷ rows) (row ∷ closed_up rows)) e

closed-kept : (m : ℕ) (rows : List Row) → in_address_order_from m rows ≡ true → in_address_order_from m (closed_up rows) ≡ true
unfolding closed_up all_free
closed-kept m [] k = kept_free m free_row [] refl refl
closed-kept m (row ∷ rows) k = go (closed-kept (suc row.address) rows) (first-of m row rows k)
  where
    go : (in_address_order_from (suc row.address) rows ≡ true → in_address_order_from (suc row.address) (closed_up rows) ≡ true) → First m row rows → in_address_order_from m (closed_up (row ∷ rows)) ≡ true
    go rest (first_free f e) = ap (in_address_order_from m) (closed-by true row rows f) ∙ kept_free m free_row (row ∷ rows) refl (and_both (is_free row) (all_free rows) f e)
    go rest (first_used f h e) = ap (in_address_order_from m) (closed-by false row rows f) ∙ kept-used m row (closed_up rows) f h (rest e)

pub without-by : (t : Bool) (a : ℕ) (row : Row) (rows : List Row) → holds a row ≡ t → without_row a (row ∷ rows) ≡ pick t (closed_up rows) (row ∷ without_row a rows)
unfolding without_row
without-by t a row rows e = ap (λ (b : Bool). pick b (closed_up rows) (row ∷ without_row a rows)) e

pub without-free : (a : ℕ) (rows : List Row) → all_free rows ≡ true → without_row a rows ≡ rows
unfolding without_row all_free
without-free a [] e = refl
without-free a (row ∷ rows) e =
    without-by false a row rows (free-holds a row (both_left (is_free row) (all_free rows) e)) ∙ ap (λ (zs : List Row). row ∷ zs) (without-free a rows (both_right (is_free row) (all_free rows) e))

pub without-kept : (a least : ℕ) (rows : List Row) → in_address_order_from least rows ≡ true → in_address_order_from least (without_row a rows) ≡ true
unfolding without_row
without-kept a least [] k = k
without-kept a least (row ∷ rows) k = go (without-kept a (suc row.address) rows) (holds a row) refl (first-of least row rows k)
  where
    go : (in_address_order_from (suc row.address) rows ≡ true → in_address_order_from (suc row.address) (without_row a rows) ≡ true) → (t : Bool) → holds a row ≡ t → First least row rows → in_address_order_from least (without_row a (row ∷ rows)) ≡ true
    go rest true h (first_free f e) = neither f (holds-used a row h)
    go rest true h (first_used f l e) = ap (in_address_order_from least) (without-by true a row rows h) ∙ closed-kept least rows (kept-lower least (suc row.address) rows (omega arith) e)
    go rest false h (first_free f e) = ap (in_address_order_from least) (without-by false a row rows h ∙ ap (λ (zs : List Row). row ∷ zs) (without-free a rows e)) ∙ k
    go rest false h (first_used f l e) = ap (in_address_order_from least) (without-by false a row rows h) ∙ kept-used least row (without_row a rows) f l (rest e)

-- A row set to one that is in use as it was, with its address.
pub set_free : (rows : List Row) (i : ℕ) (row : Row) → is_free row ≡ is_free (get_or rows i free_row) → all_free (set rows i row) ≡ all_free rows
unfolding all_free
set_free [] i row e = refl
set_free (old ∷ rows) zero row e = ap (λ (t : Bool). t && all_free rows) e
set_free (old ∷ rows) (suc i) row e = ap (λ (t : Bool). is_free old && t) (set_free rows i row e)

pub set-kept : (least : ℕ) (rows : List Row) (i : ℕ) (row : Row) → is_free row ≡ is_free (get_or rows i free_row) → row.address ≡ (get_or rows i free_row).address → in_address_order_from least (set rows i row) ≡ in_address_order_from least rows
unfolding in_address_order_from
set-kept least [] i row e a = refl
set-kept least (old ∷ rows) zero row e a =
    ap (λ (t : Bool). pick t (all_free rows) (leb least row.address && in_address_order_from (suc row.address) rows)) e
    ∙ ap (λ (n : ℕ). pick (is_free old) (all_free rows) (leb least n && in_address_order_from (suc n) rows)) a
set-kept least (old ∷ rows) (suc i) row e a =
    ap (λ (t : Bool). pick (is_free old) t (leb least old.address && in_address_order_from (suc old.address) (set rows i row))) (set_free rows i row e)
    ∙ ap (λ (t : Bool). pick (is_free old) (all_free rows) (leb least old.address && t)) (set-kept (suc old.address) rows i row e a)
