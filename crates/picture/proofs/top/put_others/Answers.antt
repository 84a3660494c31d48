-- `picture::top::put_others` meets its contract, by its test. Assumes nothing.
use mathlib.Core.Path.{◌≡◌}
use mathlib.Core.List.{[], ◌∷◌}
use Prim.Native.Nat.{ℕ}
use native.Mathlib.Omega.{arith}
use Rattle.putting.proofs.Added.{text-is, at_most, nothing_added}
use borrow.Author.Tests.{eq-eqb, ne_eqb}
use Rattle.listing.specs.Text.{ascii}
use Rattle.forms.specs.Form.{fill}
use Rattle.picture.specs.Page.{others_text}
use Rattle.picture.proofs.top.put_others.Goals as goal

no-others : (n : ℕ) → n ≡ 0 → [] ≡ others_text n
unfolding others_text
no-others n h = simp (eq-eqb n 0 h)

some-others : (n : ℕ) → (n ≡ 0 → ⊥) → fill (ascii "<p>~ records are of further addresses and settings: the first 30 have a picture, and these have none.</p>\n") (n ∷ []) ≡ others_text n
unfolding others_text
some-others n h = simp (ne_eqb n 0 h)

pub returns-then-n-ne0 : goal.returns-then-n-ne0
returns-then-n-ne0 c = at_most (omega arith) (text-is (some-others c.args.n c.if-n-ne0.true) c.put_form.ensures)

pub returns-else-n-ne0 : goal.returns-else-n-ne0
returns-else-n-ne0 c = nothing_added (no-others c.args.n c.if-n-ne0.false)
