-- `picture::section::put_heading` meets its contract: its parts are put one after another. Assumes nothing.
use mathlib.Core.Path.{ap}
use mathlib.Core.List.{[], ◌∷◌}
use Prim.Native.Nat.{ℕ}
use native.Mathlib.Omega.{arith}
use Rattle.putting.proofs.Added.{then, text-is, at_most}
use Rattle.listing.specs.Text.{ascii}
use Rattle.forms.specs.Form.{fill}
use Rattle.picture.specs.Page.{heading_text}
use Rattle.picture.proofs.section.put_heading.Goals as goal

pub returns : goal.returns
unfolding heading_text
returns c = at_most (omega arith) (then (then (then (then (text-is (ap (λ (n : ℕ). fill (ascii "<section><h2>~ <small>") (n ∷ [])) c.from.ensures) c.put_form.ensures) c.put_mode.ensures) c.word.ensures) c.put_type.ensures) c.word-2.ensures)
