-- One outcome: what a contract's record allows for given inputs, answer and memory, is one thing and no other.
use Rattle.std.specs.Prelude.{◌≡◌}

-- Any two that are allowed are equal, and one is.
pub record One (A : Type 0) (allows : A → Type 0) : Type 0 where
  pub same : (a b : A) → allows a → allows b → a ≡ b
  pub some : A
  pub allowed : allows some
