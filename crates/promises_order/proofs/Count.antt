-- How many rows of a board are in use: one row set counts one more, one fewer or the same, and a board has a free row exactly where fewer are in use
-- than it has rows.
use mathlib.Core.Path.{◌≡◌, refl, ◌∙◌, ap}
use mathlib.Core.Bool.{Bool, true, false}
use mathlib.Core.List.{List, [], ◌∷◌}
use Prim.Native.Nat.{ℕ, zero, suc, ◌<◌, ◌≤◌}
use native.Mathlib.Omega.{arith}
use lib.ListN.{length, get_or, set}
use Rattle.frame.specs.Pick.{pick}
use Rattle.board.specs.declared.Row.{Row}
use Rattle.board.specs.Row.{is_free, free_row}
use Rattle.board.specs.Rows.{place_by, place_free}

abbrev one : Bool → ℕ → ℕ
one free n = pick free n (suc n)

-- the rows in use
unfoldable pub used : List Row → ℕ
used [] = 0
used (row ∷ rows) = one (is_free row) (used rows)

one-le : (t : Bool) (m n : ℕ) → m ≤ n → one t m ≤ suc n
one-le true m n l = omega arith
one-le false m n l = omega arith

pub used_le : (rows : List Row) → used rows ≤ length rows
unfolding used
used_le [] = omega arith
used_le (row ∷ rows) = one-le (is_free row) (used rows) (length rows) (used_le rows)

swap : (s t : Bool) (n : ℕ) → one s (one t n) ≡ one t (one s n)
swap true true n = refl
swap true false n = refl
swap false true n = refl
swap false false n = refl

-- a row set for another: each counts as it is in use or free
pub used-set : (rows : List Row) (i : ℕ) (row : Row) → i < length rows → one (is_free (get_or rows i free_row)) (used (set rows i row)) ≡ one (is_free row) (used rows)
unfolding used
used-set [] i row l = absurd (omega arith)
used-set (old ∷ rows) zero row l = swap (is_free old) (is_free row) (used rows)
used-set (old ∷ rows) (suc i) row l =
    swap (is_free (get_or rows i free_row)) (is_free old) (used (set rows i row)) ∙ ap (one (is_free old)) (used-set rows i row (omega arith)) ∙ swap (is_free old) (is_free row) (used rows)

-- all free, none in use
pub used-none : (rows : List Row) → ((i : ℕ) → i < length rows → is_free (get_or rows i free_row) ≡ true) → used rows ≡ 0
unfolding used
used-none [] all = refl
used-none (row ∷ rows) all = ap (λ (t : Bool). one t (used rows)) (all zero (omega arith)) ∙ used-none rows (λ i l. all (suc i) (omega arith))

full_by : (t : Bool) (p m n : ℕ) → suc n ≤ pick t 0 (suc p) → (n ≤ p → m ≡ n) → one t m ≡ suc n
full_by true p m n l h = absurd (omega arith)
full_by false p m n l h = ap suc (h (omega arith))

-- no free row: all are in use
pub used-full : (rows : List Row) → length rows ≤ place_free rows → used rows ≡ length rows
unfolding used place_by
used-full [] l = refl
used-full (row ∷ rows) l = full_by (is_free row) (place_free rows) (used rows) (length rows) l (used-full rows)

room_by : (t : Bool) (p m n : ℕ) → m ≤ n → pick t 0 (suc p) < suc n → (p < n → m < n) → one t m < suc n
room_by true p m n k l h = omega arith
room_by false p m n k l h = let g : m < n = h (omega arith) in omega arith

-- a free row: not all are
pub used-room : (rows : List Row) → place_free rows < length rows → used rows < length rows
unfolding used place_by
used-room [] l = absurd (omega arith)
used-room (row ∷ rows) l = room_by (is_free row) (place_free rows) (used rows) (length rows) (used_le rows) l (used-room rows)
