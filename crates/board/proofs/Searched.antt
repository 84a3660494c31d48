-- What one pass over the rows comes to: whether they are so kept and, where they are, the first free place, the place for an address, and whether
-- its row stands there. Each law goes by induction on the rows, from whatever is known of those passed before. The rows passed are a board and
-- free rows behind it, which change nothing of what is found.
use mathlib.Core.Path.{◌≡◌, refl, sym, ◌∙◌, ap, subst}
use mathlib.Core.Bool.{Bool, true, false, ◌&&◌}
use mathlib.Core.List.{List, [], ◌∷◌, ◌++◌}
use Prim.Native.Nat.{ℕ, zero, suc, ◌+◌, ◌-◌, ◌*◌, ◌/◌, ◌<◌, ◌≤◌}
use native.Mathlib.Omega.{arith}
use native.Mathlib.Numerals.{add-one}
use Rattle.std.specs.Prelude.{Option, None, Some, is_some}
use lib.Dec.{eqb, leb, ltb}
use lib.ListN.{length, get_or, drop, replicate, length-append, length-replicate, drop_of_length-le, get_or-append}
use lib.Seq.{drop-cons, get_or-take, get_or-drop}
use Rattle.std.specs.Simd.{first_chunks}
use borrow.Author.Tests.{ltb-true, ltb-false, le-leb, lt-leb, le-ltb, ne_eqb, eqb-true, eqb-false}
use Rattle.frame.specs.Pick.{pick}
use Rattle.frame.proofs.Both.{both_left, both_right}
use Rattle.board.specs.declared.Row.{Row}
use Rattle.board.specs.Row.{is_free, free_row}
use Rattle.board.specs.Rows.{holds, place_by, place_of, place_free}
use Rattle.board.specs.Order.{all_free, in_address_order_from, in_address_order, insert_row, without_row}
use Rattle.board.specs.declared.value.Found.{Found}
use Rattle.board.specs.Inside.ByValue.{filled, reaches, place_for, Passed, over_free, over_low, over_used, over_row, searched, unsearched, Stands, RowAt, Sees, carry, Within, onward, backward}
use Rattle.board.proofs.Places.{place-le}
use Rattle.board.proofs.Order.{neither, free-holds, used-holds, off_cons, free_off, low-off, First, first_free, first_used, first-of}
use Rattle.board.proofs.Carried.{free-place, for-place, of-place, or_left, or_right, insert-carry, without-carry}

-- a row passed, by its tests
abbrev by : Passed → ℕ → Bool → Bool → Bool → Passed
by s m t u v = pick t (over_free s) (pick u (over_low s) (record { vacant = s.vacant; below = pick v (s.below + 1) s.below; least = m; kept = s.kept }))

bounds-by : (s : Passed) (m i : ℕ) (t u v : Bool) → s.vacant + s.below ≤ i → (by s m t u v).vacant + (by s m t u v).below ≤ i + 1
bounds-by s m i true u v l = omega arith
bounds-by s m i false true v l = omega arith
bounds-by s m i false false true l = omega arith
bounds-by s m i false false false l = omega arith

low_by : (s : Passed) (m : ℕ) (t u v : Bool) → s.kept ≡ false → (by s m t u v).kept ≡ false
low_by s m true u v e = e
low_by s m false true v e = refl
low_by s m false false v e = e

module _ (a : ℕ) (s : Passed) (row : Row) where
  pass-free : is_free row ≡ true → over_row a s row ≡ over_free s
  pass-free f = ap (λ (t : Bool). pick t (over_free s) (pick (ltb row.address s.least) (over_low s) (over_used a s row))) f

  in_use : is_free row ≡ false → over_row a s row ≡ pick (ltb row.address s.least) (over_low s) (over_used a s row)
  in_use f = ap (λ (t : Bool). pick t (over_free s) (pick (ltb row.address s.least) (over_low s) (over_used a s row))) f

  pass-low : is_free row ≡ false → ltb row.address s.least ≡ true → over_row a s row ≡ over_low s
  pass-low f l = in_use f ∙ ap (λ (t : Bool). pick t (over_low s) (over_used a s row)) l

  pass-used : is_free row ≡ false → s.least ≤ row.address → over_row a s row ≡ over_used a s row
  pass-used f l = in_use f ∙ ap (λ (t : Bool). pick t (over_low s) (over_used a s row)) (le-ltb row.address s.least l)

  -- the counts stay in bounds
  pub pass-bounds : (i : ℕ) → s.vacant + s.below ≤ i → (over_row a s row).vacant + (over_row a s row).below ≤ i + 1
  pass-bounds i l = bounds-by s (row.address + 1) i (is_free row) (ltb row.address s.least) (ltb row.address a) l

-- Once a row was out of order, no row behind it mends that.
stays-low : (a : ℕ) (s : Passed) (rows : List Row) → s.kept ≡ false → (searched a s rows).kept ≡ false
unfolding searched
stays-low a s [] e = e
stays-low a s (row ∷ rows) e =
    stays-low a (over_row a s row) rows (low_by s (row.address + 1) (is_free row) (ltb row.address s.least) (ltb row.address a) e)

-- Free rows are counted, and nothing else comes of them.
over-free : (a : ℕ) (s : Passed) (rows : List Row) → all_free rows ≡ true → ((searched a s rows).vacant ≡ s.vacant + length rows) × (((searched a s rows).below ≡ s.below) × ((searched a s rows).kept ≡ s.kept))
unfolding searched all_free
over-free a s [] e = (omega arith, (refl, refl))
over-free a s (row ∷ rows) e =
    let h = over-free a (over_free s) rows (both_right (is_free row) (all_free rows) e) in
    let p = pass-free a s row (both_left (is_free row) (all_free rows) e) in
    (ap (λ (z : Passed). (searched a z rows).vacant) p ∙ h.0 ∙ omega arith, (ap (λ (z : Passed). (searched a z rows).below) p ∙ h.1.0, ap (λ (z : Passed). (searched a z rows).kept) p ∙ h.1.1))

-- Nor do rows from the address on count as below it.
over-high : (a : ℕ) (s : Passed) (m : ℕ) (rows : List Row) → a ≤ m → s.least ≤ m → in_address_order_from m rows ≡ true → (searched a s rows).below ≡ s.below
unfolding searched
over-high a s m [] l g k = refl
over-high a s m (row ∷ rows) l g k = go (over-high a (over_used a s row) (suc row.address) rows) (first-of m row rows k)
  where
    go : (a ≤ suc row.address → row.address + 1 ≤ suc row.address → in_address_order_from (suc row.address) rows ≡ true → (searched a (over_used a s row) rows).below ≡ pick (ltb row.address a) (s.below + 1) s.below) → First m row rows → (searched a (over_row a s row) rows).below ≡ s.below
    go h (first_free f e) = ap (λ (z : Passed). (searched a z rows).below) (pass-free a s row f) ∙ (over-free a (over_free s) rows e).1.0
    go h (first_used f n e) =
        ap (λ (z : Passed). (searched a z rows).below) (pass-used a s row f (omega arith)) ∙ h (omega arith) (omega arith) e ∙ ap (λ (t : Bool). pick t (s.below + 1) s.below) (le-ltb row.address a (omega arith))

-- Of rows so kept: how many are not free, the place for an address, and that none is out of order.
abbrev Placed : ℕ → Passed → Passed → List Row → Type 0
Placed a s z rows = (z.vacant + place_free rows ≡ s.vacant + length rows) × ((z.below ≡ s.below + place_for a rows) × (z.kept ≡ s.kept))

pub searched-places : (a : ℕ) (s : Passed) (rows : List Row) → in_address_order_from s.least rows ≡ true → Placed a s (searched a s rows) rows
unfolding searched place_by
searched-places a s [] k = (omega arith, (omega arith, refl))
searched-places a s (row ∷ rows) k = go (searched-places a (over_used a s row) rows) (first-of s.least row rows k)
  where
    go : (in_address_order_from (row.address + 1) rows ≡ true → Placed a (over_used a s row) (searched a (over_used a s row) rows) rows) → First s.least row rows → Placed a s (searched a (over_row a s row) rows) (row ∷ rows)
    go h (first_free f e) =
        let p = ap (λ (z : Passed). searched a z rows) (pass-free a s row f) in
        let w = over-free a (over_free s) rows e in
        let u = free-place true row rows f in
        let v = for-place true a row rows (or_left (is_free row) (leb a row.address) f) in
        subst (λ (z : Passed). Placed a s z (row ∷ rows)) (sym p) (omega (arith, w.0, u), (w.1.0 ∙ omega (arith, v), w.1.1))
    go h (first_used f n e) =
        let p = ap (λ (z : Passed). searched a z rows) (pass-used a s row f (omega arith)) in
        let w = h (ap (λ (m : ℕ). in_address_order_from m rows) (add-one row.address) ∙ e) in
        let u = free-place false row rows f in
        subst (λ (z : Passed). Placed a s z (row ∷ rows)) (sym p) (omega (arith, w.0, u), (below (ltb row.address a) refl w.1.0, w.1.1))
      where
        below : (t : Bool) → ltb row.address a ≡ t → (searched a (over_used a s row) rows).below ≡ pick (ltb row.address a) (s.below + 1) s.below + place_for a rows → (searched a (over_used a s row) rows).below ≡ s.below + place_for a (row ∷ rows)
        below true l w =
            let v = for-place false a row rows (or_right (is_free row) (leb a row.address) f ∙ lt-leb a row.address (ltb-true row.address a l)) in
            w ∙ ap (λ (b : Bool). pick b (s.below + 1) s.below + place_for a rows) l ∙ omega (arith, v)
        below false l w =
            let v = for-place true a row rows (or_right (is_free row) (leb a row.address) f ∙ le-leb a row.address (ltb-false row.address a l)) in
            over-high a (over_used a s row) (suc row.address) rows (omega (arith, ltb-false row.address a l)) (omega arith) e ∙ ap (λ (b : Bool). pick b (s.below + 1) s.below) l ∙ omega (arith, v)

-- The addresses are those of machine words of 16 bits.
abbrev pub Low : List Row → Type 0
Low rows = (i : ℕ) → i < length rows → (get_or rows i free_row).address < 0x10000

-- No address is above them all, so that what is kept from there on is free.
high-free : (rows : List Row) → Low rows → in_address_order_from 0x10000 rows ≡ true → all_free rows ≡ true
unfolding all_free
high-free [] low k = refl
high-free (row ∷ rows) low k = go (first-of 0x10000 row rows k)
  where
    go : First 0x10000 row rows → is_free row && all_free rows ≡ true
    go (first_free f e) = ap (λ (t : Bool). t && all_free rows) f ∙ e
    go (first_used f n e) = let l : row.address < 0x10000 = low 0 (omega arith) in absurd (omega arith)

-- Where no row was out of order, the rows are so kept.
kept_back : (a : ℕ) (s : Passed) (rows : List Row) → Low rows → (searched a s rows).kept ≡ true → in_address_order_from s.least rows ≡ true
unfolding searched in_address_order_from
kept_back a s [] low k = refl
kept_back a s (row ∷ rows) low k =
    go (kept_back a (over_free s) rows (λ i l. low (suc i) (omega arith))) (kept_back a (over_used a s row) rows (λ i l. low (suc i) (omega arith))) (is_free row) (ltb row.address s.least) refl refl
  where
    go : ((searched a (over_free s) rows).kept ≡ true → in_address_order_from 0x10000 rows ≡ true) → ((searched a (over_used a s row) rows).kept ≡ true → in_address_order_from (row.address + 1) rows ≡ true)
        → (t u : Bool) → is_free row ≡ t → ltb row.address s.least ≡ u → pick (is_free row) (all_free rows) (leb s.least row.address && in_address_order_from (suc row.address) rows) ≡ true
    go free used true u f l =
        ap (λ (t : Bool). pick t (all_free rows) (leb s.least row.address && in_address_order_from (suc row.address) rows)) f
        ∙ high-free rows (λ i l. low (suc i) (omega arith)) (free (sym (ap (λ (z : Passed). (searched a z rows).kept) (pass-free a s row f)) ∙ k))
    go free used false true f l =
        neither (sym (ap (λ (z : Passed). (searched a z rows).kept) (pass-low a s row f l)) ∙ k) (stays-low a (over_low s) rows refl)
    go free used false false f l =
        let m : s.least ≤ row.address = ltb-false row.address s.least l in
        ap (λ (t : Bool). pick t (all_free rows) (leb s.least row.address && in_address_order_from (suc row.address) rows)) f
        ∙ ap (λ (t : Bool). t && in_address_order_from (suc row.address) rows) (le-leb s.least row.address m)
        ∙ sym (ap (λ (n : ℕ). in_address_order_from n rows) (add-one row.address))
        ∙ used (sym (ap (λ (z : Passed). (searched a z rows).kept) (pass-used a s row f m)) ∙ k)

-- Free rows behind a board change nothing of it.
all-free-rows : (k : ℕ) → all_free (replicate k free_row) ≡ true
unfolding all_free
all-free-rows zero = refl
all-free-rows (suc k) = all-free-rows k

all-free-more : (rows : List Row) (k : ℕ) → all_free (rows ++ replicate k free_row) ≡ all_free rows
unfolding all_free
all-free-more [] k = all-free-rows k
all-free-more (row ∷ rows) k = ap (λ (t : Bool). is_free row && t) (all-free-more rows k)

free-rows-kept : (m k : ℕ) → in_address_order_from m (replicate k free_row) ≡ true
unfolding in_address_order_from
free-rows-kept m zero = refl
free-rows-kept m (suc k) = all-free-rows k

kept_more : (m : ℕ) (rows : List Row) (k : ℕ) → in_address_order_from m (rows ++ replicate k free_row) ≡ in_address_order_from m rows
unfolding in_address_order_from
kept_more m [] k = free-rows-kept m k
kept_more m (row ∷ rows) k =
    ap (λ (t : Bool). pick (is_free row) t (leb m row.address && in_address_order_from (suc row.address) (rows ++ replicate k free_row))) (all-free-more rows k)
    ∙ ap (λ (t : Bool). pick (is_free row) (all_free rows) (leb m row.address && t)) (kept_more (suc row.address) rows k)

place-more : (test : Row → Bool) → test free_row ≡ true → (rows : List Row) (k : ℕ) → place_by test (rows ++ replicate k free_row) ≡ place_by test rows
unfolding place_by
place-more test h [] zero = refl
place-more test h [] (suc k) = ap (λ (t : Bool). pick t zero (suc (place_by test (replicate k free_row)))) h
place-more test h (row ∷ rows) k = ap (λ (n : ℕ). pick (test row) zero (suc n)) (place-more test h rows k)

-- The row of an address stands at the place for it, or nowhere.
pub data Seen (a : ℕ) (rows : List Row) : Type 0 where
  seen : place_for a rows < place_free rows → (get_or rows (place_for a rows) free_row).address ≡ a → place_of a rows ≡ place_for a rows → Seen a rows
  unseen : (place_for a rows < place_free rows → (get_or rows (place_for a rows) free_row).address ≡ a → ⊥) → length rows ≤ place_of a rows → Seen a rows

module _ (a : ℕ) (row : Row) (rows : List Row) (f : is_free row ≡ false) where
  -- the first row is in use, and the address stands behind it
  seen-behind : row.address < a → Seen a rows → Seen a (row ∷ rows)
  seen-behind l w = go w
    where
      p : place_for a (row ∷ rows) ≡ suc (place_for a rows)
      p = for-place false a row rows (or_right (is_free row) (leb a row.address) f ∙ lt-leb a row.address l)

      q : place_free (row ∷ rows) ≡ suc (place_free rows)
      q = free-place false row rows f

      h : holds a row ≡ false
      h = used-holds a row f ∙ ne_eqb row.address a (λ e. omega arith)

      go : Seen a rows → Seen a (row ∷ rows)
      go (seen less is at) = seen (omega (arith, p, q)) (ap (λ (i : ℕ). (get_or (row ∷ rows) i free_row).address) p ∙ is) (of-place false a row rows h ∙ ap suc at ∙ sym p)
      go (unseen none off) = unseen (λ less is. none (omega (arith, p, q)) (sym (ap (λ (i : ℕ). (get_or (row ∷ rows) i free_row).address) p) ∙ is)) (off_cons a row rows h off)

  seen_here : a ≤ row.address → in_address_order_from (suc row.address) rows ≡ true → Seen a (row ∷ rows)
  seen_here l k = go (eqb row.address a) refl
    where
      p : place_for a (row ∷ rows) ≡ 0
      p = for-place true a row rows (or_right (is_free row) (leb a row.address) f ∙ le-leb a row.address l)

      q : place_free (row ∷ rows) ≡ suc (place_free rows)
      q = free-place false row rows f

      there : (get_or (row ∷ rows) (place_for a (row ∷ rows)) free_row).address ≡ row.address
      there = ap (λ (i : ℕ). (get_or (row ∷ rows) i free_row).address) p

      go : (t : Bool) → eqb row.address a ≡ t → Seen a (row ∷ rows)
      go true e = seen (omega (arith, p, q)) (there ∙ eqb-true row.address a e) (of-place true a row rows (used-holds a row f ∙ e) ∙ sym p)
      go false e =
          let ne = eqb-false row.address a e in
          unseen (λ less is. ne (sym there ∙ is)) (off_cons a row rows (used-holds a row f ∙ e) (low-off a (suc row.address) rows (omega arith) k))

pub seen_of : (a least : ℕ) (rows : List Row) → in_address_order_from least rows ≡ true → Seen a rows
unfolding place_by
seen_of a least [] k = unseen (λ l e. omega arith) (omega arith)
seen_of a least (row ∷ rows) k = go (seen_of a (suc row.address) rows) (first-of least row rows k)
  where
    go : (in_address_order_from (suc row.address) rows ≡ true → Seen a rows) → First least row rows → Seen a (row ∷ rows)
    go h (first_free f e) =
        let q = free-place true row rows f in
        unseen (λ l _. absurd (omega (arith, q))) (off_cons a row rows (free-holds a row f) (free_off a rows e))
    go h (first_used f n e) = by (ltb row.address a) refl
      where
        by : (t : Bool) → ltb row.address a ≡ t → Seen a (row ∷ rows)
        by true l = seen-behind a row rows f (ltb-true row.address a l) (h e)
        by false l = seen_here a row rows f (ltb-false row.address a l) e

-- One row of the pass, and its end.
pub search-step : (a : ℕ) (s : Passed) (board : List Row) (i : ℕ) → i < length board → searched a s (drop i board) ≡ searched a (over_row a s (get_or board i free_row)) (drop (i + 1) board)
unfolding searched
search-step a s board i l =
    ap (searched a s) (drop-cons board i free_row l) ∙ ap (λ (k : ℕ). searched a (over_row a s (get_or board i free_row)) (drop k board)) (sym (add-one i))

pub search-end : (a : ℕ) (s : Passed) (board : List Row) (i : ℕ) → length board ≤ i → searched a s (drop i board) ≡ s
unfolding searched
search-end a s board i l = ap (searched a s) (drop_of_length-le board l)

-- What is known where i rows have been passed: their counts are in bounds, their addresses are words, and what the pass over all rows comes to is what
-- it comes to from here over the rest. It is so again one row on.
abbrev pub Passing : ℕ → List Row → Passed → ℕ → Type 0
Passing a held s i = (s.vacant + s.below ≤ i) × (((j : ℕ) → j < i → (get_or held j free_row).address < 0x10000) × (searched a s (drop i held) ≡ searched a unsearched held))

pub passes_on : (a : ℕ) (held : List Row) (s r : Passed) (i : ℕ) → i < length held → (r ≡ over_row a s (get_or held i free_row)) × ((get_or held i free_row).address < 0x10000) → Passing a held s i → Passing a held r (i + 1)
passes_on a held s r i l e so = (
  subst (λ (z : Passed). z.vacant + z.below ≤ i + 1) (sym e.0) (pass-bounds a s (get_or held i free_row) i so.0),
  (λ j m. words j m (ltb j i) refl, ap (λ (z : Passed). searched a z (drop (i + 1) held)) e.0 ∙ sym (search-step a s held i l) ∙ so.1.1),
)
  where
    words : (j : ℕ) → j < i + 1 → (t : Bool) → ltb j i ≡ t → (get_or held j free_row).address < 0x10000
    words j m true f = so.1.0 j (ltb-true j i f)
    words j m false f =
        let same : i ≡ j = omega (arith, ltb-false j i f) in
        subst (λ (k : ℕ). (get_or held k free_row).address < 0x10000) same e.1

-- Rows taken two by two are the same rows, and each of the two is one row more.
abbrev pub one_of : List (List Row) → (i j : ℕ) → Row
one_of twos i j = get_or (get_or twos i []) j free_row

two-at : (k i j : ℕ) (held : List Row) → i < k → j < 2 → one_of (first_chunks 2 k held) i j ≡ get_or held (i * 2 + j) free_row
two-at zero i j held l h = absurd (omega arith)
two-at (suc k) zero j held l h =
    let here : j ≡ zero * 2 + j = omega arith in get_or-take 2 held j free_row h ∙ ap (λ (n : ℕ). get_or held n free_row) here
two-at (suc k) (suc i) j held l h =
    let on : 2 + (i * 2 + j) ≡ suc i * 2 + j = omega arith in
    two-at k i j (drop 2 held) (omega arith) h ∙ get_or-drop 2 held (i * 2 + j) free_row ∙ ap (λ (n : ℕ). get_or held n free_row) on

module _ (a : ℕ) (held : List Row) (twos : List (List Row)) (are : twos ≡ first_chunks 2 (length held / 2) held) (i : ℕ) (l : i < length held / 2) where
  passes-one : (j n m : ℕ) (s r : Passed) → j < 2 → i * 2 + j ≡ n → n + 1 ≡ m → (r ≡ over_row a s (one_of twos i j)) × ((one_of twos i j).address < 0x10000) → Passing a held s n → Passing a held r m
  passes-one j n m s r h at next e so =
      subst (Passing a held r) next (passes_on a held s r n (omega arith) (e.0 ∙ ap (over_row a s) same, subst (λ (z : Row). z.address < 0x10000) same e.1) so)
    where
      same : one_of twos i j ≡ get_or held n free_row
      same = ap (λ (xs : List (List Row)). one_of xs i j) are ∙ two-at (length held / 2) i j held l h ∙ ap (λ (k : ℕ). get_or held k free_row) at

  pub passes-first : (s r : Passed) → (r ≡ over_row a s (one_of twos i 0)) × ((one_of twos i 0).address < 0x10000) → Passing a held s (i * 2) → Passing a held r (i * 2 + 1)
  passes-first s r = passes-one 0 (i * 2) (i * 2 + 1) s r (omega arith) (omega arith) refl

  pub passes-second : (s r : Passed) → (r ≡ over_row a s (one_of twos i 1)) × ((one_of twos i 1).address < 0x10000) → Passing a held s (i * 2 + 1) → Passing a held r ((i + 1) * 2)
  passes-second s r = passes-one 1 (i * 2 + 1) ((i + 1) * 2) s r (omega arith) refl (omega arith)

length-filled : (board : List Row) → length board ≤ 30 → length (filled board) ≡ 30
length-filled board l =
    length-append board (replicate (30 - length board) free_row) ∙ ap (λ (n : ℕ). length board + n) (length-replicate (30 - length board) free_row) ∙ omega arith

-- What a pass over the array that holds a board tells of the board, where none of its rows was out of order.
pub record Told (a : ℕ) (board : List Row) (s : Passed) : Type 0 where
  pub kept : in_address_order board ≡ true
  pub used : 30 - s.vacant ≡ place_free board
  pub below : s.below ≡ place_for a board

pub told-filled : (a : ℕ) (board : List Row) (s : Passed) → length board ≤ 30 → s ≡ searched a unsearched (filled board) → s.kept ≡ true → Low (filled board) → Told a board s
told-filled a board s few all sound low =
    let k : in_address_order (filled board) ≡ true = kept_back a unsearched (filled board) low (sym (ap (λ (z : Passed). z.kept) all) ∙ sound) in
    let placed = subst (λ (z : Passed). Placed a unsearched z (filled board)) (sym all) (searched-places a unsearched (filled board) k) in
    let free-is = place-more is_free refl board (30 - length board) in
    let for-is = place-more (reaches a) refl board (30 - length board) in
    let long = length-filled board few in
    record {
      kept = sym (kept_more 0 board (30 - length board)) ∙ k;
      used = vacant-is s.vacant (place_free (filled board)) (place_free board) (length (filled board)) placed.0 free-is long;
      below = below-is s.below (place_for a (filled board)) (place_for a board) placed.1.0 for-is;
    }
  where
    vacant-is : (v p q n : ℕ) → v + p ≡ 0 + n → p ≡ q → n ≡ 30 → 30 - v ≡ q
    vacant-is v p q n e f g = omega arith

    below-is : (v p q : ℕ) → v ≡ 0 + p → p ≡ q → v ≡ q
    below-is v p q e f = omega arith

-- And where one was, the board is not so kept.
pub found-low : (a : ℕ) (board : List Row) (s : Passed) (i : ℕ) → searched a s (drop i (filled board)) ≡ searched a unsearched (filled board) → s.kept ≡ false → in_address_order board ≡ false
found-low a board s i all low = not-kept (in_address_order board) refl
  where
    not-kept : (t : Bool) → in_address_order board ≡ t → in_address_order board ≡ false
    not-kept false e = e
    not-kept true e =
        neither (searched-places a unsearched (filled board) (kept_more 0 board (30 - length board) ∙ e)).1.1 (sym (ap (λ (z : Passed). z.kept) all) ∙ stays-low a s (drop i (filled board)) low)

-- The row at the place for an address is its own where it is in use and has the address; else the address has none.
module _ (a : ℕ) (board : List Row) (s : Passed) (told : Told a board s) where
  abbrev here : Row
  here = get_or (filled board) s.below free_row

  there : s.below < length board → here ≡ get_or board s.below free_row
  there l = get_or-append board (replicate (30 - length board) free_row) free_row s.below l

  placed : here ≡ get_or board s.below free_row → here.address ≡ (get_or board (place_for a board) free_row).address
  placed e = ap (λ (r : Row). r.address) e ∙ ap (λ (i : ℕ). (get_or board i free_row).address) told.below

  pub row-own : s.below < 30 - s.vacant → here.address ≡ a → Stands board a s.below here
  row-own less same = go (seen_of a 0 board told.kept)
    where
      on : s.below < length board
      on = omega (arith, told.used, place-le is_free board)

      go : Seen a board → Stands board a s.below here
      go (seen l is at) =
          let p : s.below ≡ place_of a board = told.below ∙ sym at in
          record { place = p; on = on; there = there on ∙ ap (λ (i : ℕ). get_or board i free_row) p }
      go (unseen none off) = absurd (none (omega (arith, told.used, told.below)) (sym (placed (there on)) ∙ same))

  pub row-none : (s.below < 30 - s.vacant → here.address ≡ a → ⊥) → length board ≤ place_of a board
  row-none other = go (seen_of a 0 board told.kept)
    where
      go : Seen a board → length board ≤ place_of a board
      go (seen l is at) = absurd (other (omega (arith, told.used, told.below)) (placed (there (omega (arith, told.below, place-le is_free board))) ∙ is))
      go (unseen none off) = off

-- Whether the row of an address was found.
pub found-none : (board : List Row) (a spot : ℕ) (r : Option Row) → is_some r ≡ false → RowAt board a spot r → length board ≤ place_of a board
found-none board a spot None e at = at
found-none board a spot (Some own) e at = neither refl e

pub found-some : (board : List Row) (a spot : ℕ) (r : Option Row) → is_some r ≡ true → RowAt board a spot r → (spot ≡ place_of a board) × (spot < length board)
found-some board a spot None e at = neither e refl
found-some board a spot (Some own) e at = (at.place, at.on)

-- The change that an enrolment makes of a board on which the address was not found, and that of a removal where it was.
module _ (a : ℕ) (board : List Row) (f : Found) (sees : Sees board a f) where
  pub moves-in : (row new : Row) → row ≡ new → new.address ≡ a → place_free board < length board → length board ≤ place_of a board → (carry 1 0 (f.free - f.spot + 1) f.spot row board ≡ insert_row new board) × Within (length board) 1 0 (f.free - f.spot + 1) f.spot
  moves-in row new is own room off = (
    ap (λ (r : Row). carry 1 0 (f.free - f.spot + 1) f.spot r board) is
        ∙ ap (λ (i : ℕ). carry 1 0 (i - f.spot + 1) f.spot new board) sees.vacant
        ∙ ap (λ (i : ℕ). carry 1 0 (place_free board - i + 1) i new board) sees.stands
        ∙ ap (λ (b : ℕ). carry 1 0 (place_free board - place_for b board + 1) (place_for b board) new board) (sym own)
        ∙ insert-carry new board room (subst (λ (b : ℕ). length board ≤ place_of b board) (sym own) off),
    onward refl refl (omega (arith, sees.bounds.spot_free, sees.vacant)),
  )

  pub moves_out : (row : Row) → row ≡ free_row → f.spot ≡ place_of a board → f.spot < length board → (carry 0 1 (f.free - f.spot) f.free row board ≡ without_row a board) × Within (length board) 0 1 (f.free - f.spot) f.free
  moves_out row is at on = (
    ap (λ (r : Row). carry 0 1 (f.free - f.spot) f.free r board) is
        ∙ ap (λ (i : ℕ). carry 0 1 (i - f.spot) i free_row board) sees.vacant
        ∙ ap (λ (i : ℕ). carry 0 1 (place_free board - i) (place_free board) free_row board) at
        ∙ without-carry a 0 board sees.order (omega (arith, at)),
    backward refl refl (omega arith) (omega (arith, sees.vacant, place-le is_free board)),
  )
