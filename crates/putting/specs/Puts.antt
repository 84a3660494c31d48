-- What putting a text into an output leaves, the places told beside it. No call's contract says it, they say `Adds`; the proofs of putting and of
-- listing take what was added for what was put.
use Rattle.std.specs.Prelude.{◌≡◌, List, ℕ, ◌+◌, ◌≤◌, length}
use Rattle.std.proofs.lemmas.List.Edits.{sets}

-- A text of at most so many bytes was put into an output from a place on; `end` is the place after it.
pub record Puts (text : List ℕ) (most : ℕ) (out : List ℕ) (at end : ℕ) (after : List ℕ) : Type 0 where
  pub ends : end ≡ at + length text
  pub leaves : after ≡ sets out at text
  pub within : length text ≤ most
