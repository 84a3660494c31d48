-- The first row that a test holds of: where it stands, what is known of the rows before it, and that nothing else is so placed.
-- Each law goes by induction on the rows, with the test of the first row taken apart.
use mathlib.Core.Path.{◌≡◌, refl, sym, ◌∙◌, ap}
use mathlib.Core.Bool.{Bool, true, false}
use mathlib.Core.List.{List, [], ◌∷◌}
use Prim.Native.Nat.{ℕ, zero, suc, ◌<◌, ◌≤◌}
use native.Mathlib.Omega.{arith}
use lib.ListN.{length, get_or}
use Rattle.frame.specs.Pick.{pick}
use Rattle.board.specs.declared.Row.{Row}
use Rattle.board.specs.Row.{free_row}
use Rattle.board.specs.Rows.{place_by}

module _ (test : Row → Bool) where
  before-by : (t : Bool) (row : Row) (rows : List Row) → test row ≡ t → ((k : ℕ) → k < place_by test rows → test (get_or rows k free_row) ≡ false) → (k : ℕ) → k < pick t 0 (suc (place_by test rows)) → test (get_or (row ∷ rows) k free_row) ≡ false
  before-by true row rows e all k l = absurd (omega arith)
  before-by false row rows e all zero l = e
  before-by false row rows e all (suc k) l = all k (omega arith)

  -- the test fails of each row before the place
  pub place-before : (rows : List Row) (k : ℕ) → k < place_by test rows → test (get_or rows k free_row) ≡ false
  unfolding place_by
  place-before [] k l = absurd (omega arith)
  place-before (row ∷ rows) k l = before-by (test row) row rows refl (place-before rows) k l

  at-by : (t : Bool) (row : Row) (rows : List Row) → test row ≡ t → (place_by test rows < length rows → test (get_or rows (place_by test rows) free_row) ≡ true) → pick t 0 (suc (place_by test rows)) < suc (length rows) → test (get_or (row ∷ rows) (pick t 0 (suc (place_by test rows))) free_row) ≡ true
  at-by true row rows e here l = e
  at-by false row rows e here l = here (omega arith)

  -- the test holds at the place, where that is a row
  pub place_at : (rows : List Row) → place_by test rows < length rows → test (get_or rows (place_by test rows) free_row) ≡ true
  unfolding place_by
  place_at [] l = absurd (omega arith)
  place_at (row ∷ rows) l = at-by (test row) row rows refl (place_at rows) l

  le-by : (t : Bool) (p n : ℕ) → p ≤ n → pick t 0 (suc p) ≤ suc n
  le-by true p n l = omega arith
  le-by false p n l = omega arith

  pub place-le : (rows : List Row) → place_by test rows ≤ length rows
  unfolding place_by
  place-le [] = omega arith
  place-le (row ∷ rows) = le-by (test row) (place_by test rows) (length rows) (place-le rows)

  Fails : List Row → ℕ → Type 0
  Fails rows i = (k : ℕ) → k < i → test (get_or rows k free_row) ≡ false

  is-by : (t : Bool) (row : Row) (rows : List Row) → test row ≡ t → ((i : ℕ) → i ≤ length rows → Fails rows i → (i < length rows → test (get_or rows i free_row) ≡ true) → place_by test rows ≡ i) → (i : ℕ) → i ≤ suc (length rows) → Fails (row ∷ rows) i → (i < suc (length rows) → test (get_or (row ∷ rows) i free_row) ≡ true) → pick t 0 (suc (place_by test rows)) ≡ i
  unfolding Fails
  is-by true row rows e rest zero l fails here = refl
  is-by true row rows e rest (suc i) l fails here = let z : ◌≡◌ {A = Bool} true false = sym e ∙ fails zero (omega arith) in let bad : ◌≡◌ {A = ℕ} 0 1 = cc in absurd (omega arith)
  is-by false row rows e rest zero l fails here = let z : ◌≡◌ {A = Bool} true false = sym (here (omega arith)) ∙ e in let bad : ◌≡◌ {A = ℕ} 0 1 = cc in absurd (omega arith)
  is-by false row rows e rest (suc i) l fails here = ap suc (rest i (omega arith) (λ k k-less. fails (suc k) (omega arith)) (λ i-less. here (omega arith)))

  -- a place of which all that is known is the first
  pub place_is : (rows : List Row) (i : ℕ) → i ≤ length rows → ((k : ℕ) → k < i → test (get_or rows k free_row) ≡ false) → (i < length rows → test (get_or rows i free_row) ≡ true) → place_by test rows ≡ i
  unfolding place_by Fails
  place_is [] i l fails here = omega arith
  place_is (row ∷ rows) i l fails here = is-by (test row) row rows refl (place_is rows) i l fails here
