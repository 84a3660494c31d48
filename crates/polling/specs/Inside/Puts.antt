-- What the calls that fill an output do. Only these calls speak of it to each other.
use Rattle.std.specs.Prelude.{◌≡◌, List, ◌++◌, ℕ, length, take, drop}

-- Samples were put into an output from its front, as many as fit; `many` is how many.
pub record Puts (samples : List ℕ) (out : List ℕ) (many : ℕ) (after : List ℕ) : Type 0 where
  pub count : many ≡ length (take (length out) samples)
  pub leaves : after ≡ take (length out) samples ++ drop many out
