-- What the calls that fill an output do. Only these calls speak of it to each other.
use Rattle.std.specs.Prelude.{◌≡◌, List, ℕ, ◌+◌, ◌-◌, length, take}
use Rattle.std.proofs.lemmas.List.Edits.{sets}

-- Samples were put into an output from a place on, as many as fit; `end` is the place after them.
pub record Fills (samples : List ℕ) (out : List ℕ) (at end : ℕ) (after : List ℕ) : Type 0 where
  pub ends : end ≡ at + length (take (length out - at) samples)
  pub leaves : after ≡ sets out at (take (length out - at) samples)
