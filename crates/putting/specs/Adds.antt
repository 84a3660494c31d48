-- What the calls that write a text into an output do; the crates that write text or records say it of theirs too.
use Rattle.std.specs.Prelude.{◌≡◌, List, ℕ, ◌+◌, ◌≤◌, length}
use Rattle.std.proofs.lemmas.List.Edits.{sets}
use Rattle.putting.specs.declared.Text.{Text}

-- So many bytes more have room.
abbrev pub HasRoom : Text → ℕ → Type 0
HasRoom t n = t.at + n ≤ length t.out.now

-- A text of at most so many bytes was added: it stands where the output was written up to, and the rest of the output stays.
pub record Adds (text : List ℕ) (most : ℕ) (before after : Text) : Type 0 where
  -- it is the same output, and as long as before
  pub same : after.out.ghost_name ≡ before.out.ghost_name
  pub keeps : length after.out.now ≡ length before.out.now
  pub ends : after.at ≡ before.at + length text
  pub leaves : after.out.now ≡ sets before.out.now before.at text
  pub within : length text ≤ most
