-- The rows in use that hold an address, wherever they stand: what each change of a board makes of them, and that all that a call asks of a board is
-- said by them and by the number of rows in use. Each law goes by induction on the rows, with the tests of the first one taken apart.
use mathlib.Core.Path.{◌≡◌, refl, sym, ◌∙◌, ap}
use mathlib.Core.Bool.{Bool, true, false}
use mathlib.Core.List.{List, [], ◌∷◌}
use Prim.Native.Nat.{ℕ, zero, suc, ◌<◌, ◌≤◌}
use native.Mathlib.Omega.{arith}
use lib.Dec.{ltb}
use lib.ListN.{length, get_or, set}
use borrow.Author.Tests.{ltb-true, ltb-false, lt-ltb, le-ltb, eqb-true, ne_eqb}
use Rattle.frame.specs.Pick.{pick}
use Rattle.board.specs.declared.Row.{Row}
use Rattle.board.specs.Row.{is_free, free_row}
use Rattle.board.specs.Rows.{holds, place_by, place_of, row_of, on_board, place_free, has_free}
use Rattle.board.specs.Order.{in_address_order_from, pushed, insert_row, closed_up, without_row}
use Rattle.board.proofs.Order.{neither, free-holds, used-holds, holds-used, off_head, room-tail, free_off, low-off, First, first_free, first_used, first-of, Put, put_free, put_here, put_behind, put_of}
use Rattle.promises_order.specs.OldBoard.{rows_held_by}
use Rattle.promises_order.proofs.Count.{used, used-full, used-room}

module _ (a : ℕ) (row : Row) (rows : List Row) where
  pub held_by : (t : Bool) → holds a row ≡ t → rows_held_by a (row ∷ rows) ≡ pick t (row ∷ rows_held_by a rows) (rows_held_by a rows)
  unfolding rows_held_by
  held_by t e = ap (λ (b : Bool). pick b (row ∷ rows_held_by a rows) (rows_held_by a rows)) e

  pub held-free : is_free row ≡ true → rows_held_by a (row ∷ rows) ≡ rows_held_by a rows
  held-free f = held_by false (free-holds a row f)

-- The first of them, none where there is none; and those behind the first.
abbrev pub first : List Row → Row
first [] = free_row
first (row ∷ rows) = row

abbrev pub behind : List Row → List Row
behind [] = []
behind (row ∷ rows) = rows

abbrev pub some : List Row → Bool
some [] = false
some (row ∷ rows) = true

-- The row of an address, and whether it is on the board.
pub row-of : (a : ℕ) (rows : List Row) → row_of a rows ≡ first (rows_held_by a rows)
unfolding place_by rows_held_by
row-of a [] = refl
row-of a (row ∷ rows) = go (row-of a rows) (holds a row)
  where
    go : row_of a rows ≡ first (rows_held_by a rows) → (t : Bool) → get_or (row ∷ rows) (pick t zero (suc (place_of a rows))) free_row ≡ first (pick t (row ∷ rows_held_by a rows) (rows_held_by a rows))
    go h true = refl
    go h false = h

pub on-held : (a : ℕ) (rows : List Row) → on_board a rows ≡ some (rows_held_by a rows)
unfolding place_by rows_held_by
on-held a [] = refl
on-held a (row ∷ rows) = go (on-held a rows) (holds a row)
  where
    go : on_board a rows ≡ some (rows_held_by a rows) → (t : Bool) → ltb (pick t zero (suc (place_of a rows))) (suc (length rows)) ≡ some (pick t (row ∷ rows_held_by a rows) (rows_held_by a rows))
    go h true = lt-ltb zero (suc (length rows)) (omega arith)
    go h false = shifts (place_of a rows) (length rows) ∙ h
      where
        shifts : (m n : ℕ) → ltb (suc m) (suc n) ≡ ltb m n
        shifts m n = by (ltb m n) refl
          where
            by : (t : Bool) → ltb m n ≡ t → ltb (suc m) (suc n) ≡ t
            by true e = lt-ltb (suc m) (suc n) (omega (arith, ltb-true m n e))
            by false e = le-ltb (suc m) (suc n) (omega (arith, ltb-false m n e))

-- No row holds it.
pub held-off : (a : ℕ) (rows : List Row) → length rows ≤ place_of a rows → rows_held_by a rows ≡ []
unfolding rows_held_by
held-off a [] l = refl
held-off a (row ∷ rows) l = let p = off_head a row rows l in held_by a row rows false p.0 ∙ held-off a rows p.1

-- Rows so kept hold an address once at most.
pub held-once : (a least : ℕ) (rows : List Row) → in_address_order_from least rows ≡ true → behind (rows_held_by a rows) ≡ []
unfolding rows_held_by
held-once a least [] k = refl
held-once a least (row ∷ rows) k = go (held-once a (suc row.address) rows) (first-of least row rows k)
  where
    go : (in_address_order_from (suc row.address) rows ≡ true → behind (rows_held_by a rows) ≡ []) → First least row rows → behind (rows_held_by a (row ∷ rows)) ≡ []
    go h (first_free f e) = ap behind (held-free a row rows f ∙ held-off a rows (free_off a rows e))
    go h (first_used f l e) = by (holds a row) refl
      where
        by : (t : Bool) → holds a row ≡ t → behind (rows_held_by a (row ∷ rows)) ≡ []
        by true t =
            let same : row.address ≡ a = eqb-true row.address a (sym (used-holds a row f) ∙ t) in
            ap behind (held_by a row rows true t) ∙ held-off a rows (low-off a (suc row.address) rows (omega arith) e)
        by false t = ap behind (held_by a row rows false t) ∙ h e

-- The rows held by b where one is added that is in use: it is among them where it is b's.
abbrev pub added : ℕ → Row → List Row → List Row
added b new rows = pick (holds b new) (new ∷ rows) rows

-- Behind a first row what was added is added still.
added-behind : (b : ℕ) (new row : Row) (rows after : List Row) → (holds b new ≡ true → rows_held_by b (row ∷ rows) ≡ []) → ((holds b new ≡ true → rows_held_by b rows ≡ []) → rows_held_by b after ≡ added b new (rows_held_by b rows))
    → rows_held_by b (row ∷ after) ≡ added b new (rows_held_by b (row ∷ rows))
added-behind b new row rows after none h = by (holds b row) refl (holds b new) refl
  where
    clash : ◌≡◌ {A = List Row} (row ∷ rows_held_by b rows) [] → ◌≡◌ {A = ℕ} 0 1
    clash z = cc

    by : (t : Bool) → holds b row ≡ t → (s : Bool) → holds b new ≡ s → rows_held_by b (row ∷ after) ≡ pick s (new ∷ rows_held_by b (row ∷ rows)) (rows_held_by b (row ∷ rows))
    by true e true f = let bad = clash (sym (held_by b row rows true e) ∙ none f) in absurd (omega arith)
    by true e false f =
        held_by b row after true e ∙ ap (λ (zs : List Row). row ∷ zs) (h (λ n. neither n f) ∙ ap (λ (t : Bool). pick t (new ∷ rows_held_by b rows) (rows_held_by b rows)) f) ∙ sym (held_by b row rows true e)
    by false e t f =
        held_by b row after false e ∙ h (λ n. sym (held_by b row rows false e) ∙ none n) ∙ ap (λ (u : Bool). pick u (new ∷ rows_held_by b rows) (rows_held_by b rows)) f
        ∙ sym (ap (λ (zs : List Row). pick t (new ∷ zs) zs) (held_by b row rows false e))

-- A row set in the first free place, as the old board did, where no row has its address yet.
pub held-set-free : (b : ℕ) (new : Row) (rows : List Row) → place_free rows < length rows → (holds b new ≡ true → rows_held_by b rows ≡ []) → rows_held_by b (set rows (place_free rows) new) ≡ added b new (rows_held_by b rows)
unfolding place_by
held-set-free b new [] l none = absurd (omega arith)
held-set-free b new (row ∷ rows) l none = go (held-set-free b new rows) (is_free row) refl
  where
    go : (place_free rows < length rows → (holds b new ≡ true → rows_held_by b rows ≡ []) → rows_held_by b (set rows (place_free rows) new) ≡ added b new (rows_held_by b rows))
        → (t : Bool) → is_free row ≡ t → rows_held_by b (set (row ∷ rows) (pick (is_free row) zero (suc (place_free rows))) new) ≡ added b new (rows_held_by b (row ∷ rows))
    go h true f =
        ap (λ (t : Bool). rows_held_by b (set (row ∷ rows) (pick t zero (suc (place_free rows))) new)) f ∙ held_by b new rows (holds b new) refl
        ∙ sym (ap (added b new) (held-free b row rows f))
    go h false f =
        ap (λ (t : Bool). rows_held_by b (set (row ∷ rows) (pick t zero (suc (place_free rows))) new)) f
        ∙ added-behind b new row rows (set rows (place_free rows) new) none (h (room-tail row rows f l))

-- The same of a row put in by its address.
held-pushed : (b : ℕ) (row : Row) (rows : List Row) → place_free rows < length rows → rows_held_by b (pushed row rows) ≡ rows_held_by b (row ∷ rows)
unfolding pushed place_by
held-pushed b row [] l = absurd (omega arith)
held-pushed b row (next ∷ rows) l = go (held-pushed b next rows) (is_free next) refl
  where
    behind-row : (zs : List Row) → rows_held_by b zs ≡ rows_held_by b (next ∷ rows) → rows_held_by b (row ∷ zs) ≡ rows_held_by b (row ∷ next ∷ rows)
    behind-row zs e = held_by b row zs (holds b row) refl ∙ ap (λ (ws : List Row). pick (holds b row) (row ∷ ws) ws) e ∙ sym (held_by b row (next ∷ rows) (holds b row) refl)

    go : (place_free rows < length rows → rows_held_by b (pushed next rows) ≡ rows_held_by b (next ∷ rows)) → (t : Bool) → is_free next ≡ t → rows_held_by b (row ∷ pick (is_free next) rows (pushed next rows)) ≡ rows_held_by b (row ∷ next ∷ rows)
    go h true f = ap (λ (t : Bool). rows_held_by b (row ∷ pick t rows (pushed next rows))) f ∙ behind-row rows (sym (held-free b next rows f))
    go h false f = ap (λ (t : Bool). rows_held_by b (row ∷ pick t rows (pushed next rows))) f ∙ behind-row (pushed next rows) (h (room-tail next rows f l))

pub held-insert : (b : ℕ) (new : Row) (rows : List Row) → place_free rows < length rows → (holds b new ≡ true → rows_held_by b rows ≡ []) → rows_held_by b (insert_row new rows) ≡ added b new (rows_held_by b rows)
unfolding place_by
held-insert b new [] l none = absurd (omega arith)
held-insert b new (next ∷ rows) l none = go (held-insert b new rows) (put_of new next rows)
  where
    go : (place_free rows < length rows → (holds b new ≡ true → rows_held_by b rows ≡ []) → rows_held_by b (insert_row new rows) ≡ added b new (rows_held_by b rows)) → Put new next rows → rows_held_by b (insert_row new (next ∷ rows)) ≡ added b new (rows_held_by b (next ∷ rows))
    go h (put_free f is) = ap (rows_held_by b) is ∙ held_by b new rows (holds b new) refl ∙ sym (ap (added b new) (held-free b next rows f))
    go h (put_here f less is) = ap (rows_held_by b) is ∙ held_by b new (pushed next rows) (holds b new) refl ∙ ap (added b new) (held-pushed b next rows (room-tail next rows f l))
    go h (put_behind f most is) = ap (rows_held_by b) is ∙ added-behind b new next rows (insert_row new rows) none (h (room-tail next rows f l))

-- A row in use of one address is not of another.
pub apart : (a b : ℕ) (row : Row) → (a ≡ b → ⊥) → holds a row ≡ true → holds b row ≡ false
apart a b row ne h =
    let f = holds-used a row h in
    let same : row.address ≡ a = eqb-true row.address a (sym (used-holds a row f) ∙ h) in
    used-holds b row f ∙ ne_eqb row.address b (λ e. ne (sym same ∙ e))

-- A row set in the place of an address.
module _ (a : ℕ) (new : Row) where
  pub held-set-other : (b : ℕ) (rows : List Row) → (a ≡ b → ⊥) → holds b new ≡ false → rows_held_by b (set rows (place_of a rows) new) ≡ rows_held_by b rows
  unfolding place_by rows_held_by
  held-set-other b [] ne n = refl
  held-set-other b (row ∷ rows) ne n = go (held-set-other b rows ne n) (holds a row) refl
    where
      go : rows_held_by b (set rows (place_of a rows) new) ≡ rows_held_by b rows → (t : Bool) → holds a row ≡ t → rows_held_by b (set (row ∷ rows) (pick t zero (suc (place_of a rows))) new) ≡ rows_held_by b (row ∷ rows)
      go h true e = held_by b new rows false n ∙ sym (held_by b row rows false (apart a b row ne e))
      go h false e = ap (λ (zs : List Row). pick (holds b row) (row ∷ zs) zs) h

  pub held-set-own : (rows : List Row) → place_of a rows < length rows → rows_held_by a (set rows (place_of a rows) new) ≡ added a new (behind (rows_held_by a rows))
  unfolding place_by rows_held_by
  held-set-own [] l = absurd (omega arith)
  held-set-own (row ∷ rows) l = go (held-set-own rows) (holds a row) refl l
    where
      go : (place_of a rows < length rows → rows_held_by a (set rows (place_of a rows) new) ≡ added a new (behind (rows_held_by a rows)))
          → (t : Bool) → holds a row ≡ t → pick t zero (suc (place_of a rows)) < suc (length rows) → rows_held_by a (set (row ∷ rows) (pick t zero (suc (place_of a rows))) new) ≡ added a new (behind (pick (holds a row) (row ∷ rows_held_by a rows) (rows_held_by a rows)))
      go h true e k = sym (ap (λ (t : Bool). added a new (behind (pick t (row ∷ rows_held_by a rows) (rows_held_by a rows)))) e)
      go h false e k =
          held_by a row (set rows (place_of a rows) new) false e ∙ h (omega arith) ∙ sym (ap (λ (t : Bool). added a new (behind (pick t (row ∷ rows_held_by a rows) (rows_held_by a rows)))) e)

-- A row taken out.
held-closed : (b : ℕ) (rows : List Row) → rows_held_by b (closed_up rows) ≡ rows_held_by b rows
unfolding closed_up rows_held_by
held-closed b [] = refl
held-closed b (row ∷ rows) = go (held-closed b rows) (is_free row) refl
  where
    go : rows_held_by b (closed_up rows) ≡ rows_held_by b rows → (t : Bool) → is_free row ≡ t → rows_held_by b (pick t (free_row ∷ row ∷ rows) (row ∷ closed_up rows)) ≡ rows_held_by b (row ∷ rows)
    go h true f = held-free b free_row (row ∷ rows) refl
    go h false f = ap (λ (zs : List Row). pick (holds b row) (row ∷ zs) zs) h

pub held-without-other : (a b : ℕ) (rows : List Row) → (a ≡ b → ⊥) → rows_held_by b (without_row a rows) ≡ rows_held_by b rows
unfolding without_row rows_held_by
held-without-other a b [] ne = refl
held-without-other a b (row ∷ rows) ne = go (held-without-other a b rows ne) (holds a row) refl
  where
    go : rows_held_by b (without_row a rows) ≡ rows_held_by b rows → (t : Bool) → holds a row ≡ t → rows_held_by b (pick t (closed_up rows) (row ∷ without_row a rows)) ≡ rows_held_by b (row ∷ rows)
    go h true e = held-closed b rows ∙ sym (held_by b row rows false (apart a b row ne e))
    go h false e = ap (λ (zs : List Row). pick (holds b row) (row ∷ zs) zs) h

pub held-without-own : (a : ℕ) (rows : List Row) → rows_held_by a (without_row a rows) ≡ behind (rows_held_by a rows)
unfolding without_row rows_held_by
held-without-own a [] = refl
held-without-own a (row ∷ rows) = go (held-without-own a rows) (holds a row) refl
  where
    go : rows_held_by a (without_row a rows) ≡ behind (rows_held_by a rows) → (t : Bool) → holds a row ≡ t → rows_held_by a (pick t (closed_up rows) (row ∷ without_row a rows)) ≡ behind (pick t (row ∷ rows_held_by a rows) (rows_held_by a rows))
    go h true e = held-closed a rows
    go h false e = held_by a row (without_row a rows) false e ∙ h

-- How many rows there are, and how many are in use.
pub length-pushed : (row : Row) (rows : List Row) → length (pushed row rows) ≡ length rows
unfolding pushed
length-pushed row [] = refl
length-pushed row (next ∷ rows) = go (length-pushed next rows) (is_free next)
  where
    go : length (pushed next rows) ≡ length rows → (t : Bool) → suc (length (pick t rows (pushed next rows))) ≡ suc (length rows)
    go h true = refl
    go h false = ap suc h

pub length-insert : (row : Row) (rows : List Row) → length (insert_row row rows) ≡ length rows
unfolding insert_row
length-insert row [] = refl
length-insert row (next ∷ rows) = go (length-insert row rows) (put_of row next rows)
  where
    go : length (insert_row row rows) ≡ length rows → Put row next rows → length (insert_row row (next ∷ rows)) ≡ suc (length rows)
    go h (put_free f is) = ap length is
    go h (put_here f l is) = ap length is ∙ ap suc (length-pushed next rows)
    go h (put_behind f l is) = ap length is ∙ ap suc h

length-closed : (rows : List Row) → length (closed_up rows) ≡ suc (length rows)
unfolding closed_up
length-closed [] = refl
length-closed (row ∷ rows) = go (length-closed rows) (is_free row)
  where
    go : length (closed_up rows) ≡ suc (length rows) → (t : Bool) → length (pick t (free_row ∷ row ∷ rows) (row ∷ closed_up rows)) ≡ suc (suc (length rows))
    go h true = refl
    go h false = ap suc h

pub length_without : (a : ℕ) (rows : List Row) → length (without_row a rows) ≡ length rows
unfolding without_row
length_without a [] = refl
length_without a (row ∷ rows) = go (length_without a rows) (holds a row)
  where
    go : length (without_row a rows) ≡ length rows → (t : Bool) → length (pick t (closed_up rows) (row ∷ without_row a rows)) ≡ suc (length rows)
    go h true = length-closed rows
    go h false = ap suc h

abbrev one : Bool → ℕ → ℕ
one free n = pick free n (suc n)

used-by : (t : Bool) (row : Row) (rows : List Row) → is_free row ≡ t → used (row ∷ rows) ≡ one t (used rows)
unfolding used
used-by t row rows e = ap (λ (b : Bool). one b (used rows)) e

used-pushed : (row : Row) (rows : List Row) → is_free row ≡ false → place_free rows < length rows → used (pushed row rows) ≡ suc (used rows)
unfolding pushed place_by
used-pushed row [] u l = absurd (omega arith)
used-pushed row (next ∷ rows) u l = go (used-pushed next rows) (is_free next) refl
  where
    go : (is_free next ≡ false → place_free rows < length rows → used (pushed next rows) ≡ suc (used rows)) → (t : Bool) → is_free next ≡ t → used (row ∷ pick (is_free next) rows (pushed next rows)) ≡ suc (used (next ∷ rows))
    go h true f = ap (λ (t : Bool). used (row ∷ pick t rows (pushed next rows))) f ∙ used-by false row rows u ∙ sym (ap suc (used-by true next rows f))
    go h false f =
        ap (λ (t : Bool). used (row ∷ pick t rows (pushed next rows))) f ∙ used-by false row (pushed next rows) u ∙ ap suc (h f (room-tail next rows f l)) ∙ sym (ap suc (used-by false next rows f))

pub used-insert : (new : Row) (rows : List Row) → is_free new ≡ false → place_free rows < length rows → used (insert_row new rows) ≡ suc (used rows)
unfolding place_by
used-insert new [] u l = absurd (omega arith)
used-insert new (next ∷ rows) u l = go (used-insert new rows u) (put_of new next rows)
  where
    go : (place_free rows < length rows → used (insert_row new rows) ≡ suc (used rows)) → Put new next rows → used (insert_row new (next ∷ rows)) ≡ suc (used (next ∷ rows))
    go h (put_free f is) = ap used is ∙ used-by false new rows u ∙ sym (ap suc (used-by true next rows f))
    go h (put_here f less is) = ap used is ∙ used-by false new (pushed next rows) u ∙ ap suc (used-pushed next rows f (room-tail next rows f l) ∙ sym (used-by false next rows f))
    go h (put_behind f most is) = ap used is ∙ used-by false next (insert_row new rows) f ∙ ap suc (h (room-tail next rows f l) ∙ sym (used-by false next rows f))

used-closed : (rows : List Row) → used (closed_up rows) ≡ used rows
unfolding closed_up used
used-closed [] = refl
used-closed (row ∷ rows) = go (used-closed rows) (is_free row) refl
  where
    go : used (closed_up rows) ≡ used rows → (t : Bool) → is_free row ≡ t → used (pick t (free_row ∷ row ∷ rows) (row ∷ closed_up rows)) ≡ one t (used rows)
    go h true f = used-by true free_row (row ∷ rows) refl ∙ used-by true row rows f
    go h false f = used-by false row (closed_up rows) f ∙ ap suc h

pub used-without : (a : ℕ) (rows : List Row) → place_of a rows < length rows → suc (used (without_row a rows)) ≡ used rows
unfolding without_row place_by
used-without a [] l = absurd (omega arith)
used-without a (row ∷ rows) l = go (used-without a rows) (holds a row) refl l
  where
    go : (place_of a rows < length rows → suc (used (without_row a rows)) ≡ used rows) → (t : Bool) → holds a row ≡ t → pick t zero (suc (place_of a rows)) < suc (length rows) → suc (used (pick t (closed_up rows) (row ∷ without_row a rows))) ≡ used (row ∷ rows)
    go h true e k = ap suc (used-closed rows) ∙ sym (used-by false row rows (holds-used a row e))
    go h false e k = by (is_free row) refl
      where
        by : (t : Bool) → is_free row ≡ t → suc (used (row ∷ without_row a rows)) ≡ used (row ∷ rows)
        by true f = ap suc (used-by true row (without_row a rows) f) ∙ h (omega arith) ∙ sym (used-by true row rows f)
        by false f = ap suc (used-by false row (without_row a rows) f) ∙ ap suc (h (omega arith)) ∙ sym (used-by false row rows f)

-- There is a free row where fewer are in use than there are rows.
pub free-used : (rows : List Row) → has_free rows ≡ ltb (used rows) (length rows)
free-used rows = go (has_free rows) refl
  where
    go : (t : Bool) → has_free rows ≡ t → t ≡ ltb (used rows) (length rows)
    go true e = sym (lt-ltb (used rows) (length rows) (used-room rows (ltb-true (place_free rows) (length rows) e)))
    go false e = sym (le-ltb (used rows) (length rows) (omega (arith, used-full rows (ltb-false (place_free rows) (length rows) e))))
