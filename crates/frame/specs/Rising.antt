-- Lists that rise strictly by a key, over any type and key: a row of lines or of rows kept in order.
use Rattle.std.specs.Prelude.{List, [], ◌∷◌, ℕ, ◌<◌, eqb}
use Rattle.frame.specs.Pick.{pick}

-- Every key of a list is above a number.
pub data Above {A : Type 0} (key : A → ℕ) (n : ℕ) : List A → Type 0 where
  above_none : Above key n []
  above_more : {x : A} {xs : List A} → n < key x → Above key n xs → Above key n (x ∷ xs)

-- Each key of a list is below all that follow it.
pub data Rises {A : Type 0} (key : A → ℕ) : List A → Type 0 where
  rises_none : Rises key []
  rises_more : {x : A} {xs : List A} → Above key (key x) xs → Rises key xs → Rises key (x ∷ xs)

-- What a list holds at a key: the first element that has it, or nothing.
unfoldable pub held_at : {A : Type 0} → (A → ℕ) → ℕ → List A → List A
held_at key k [] = []
held_at key k (x ∷ xs) = pick (eqb (key x) k) (x ∷ []) (held_at key k xs)
