-- `picture::figures::put_off` meets its contract, by its test. Assumes nothing.
use mathlib.Core.Path.{◌≡◌}
use mathlib.Core.List.{[], ◌∷◌}
use Prim.Native.Nat.{ℕ}
use native.Mathlib.Omega.{arith}
use Rattle.putting.proofs.Added.{text-is, at_most, nothing_added}
use borrow.Author.Tests.{eq-eqb, ne_eqb}
use Rattle.listing.specs.Text.{ascii}
use Rattle.forms.specs.Form.{fill, choice}
use Rattle.picture.specs.Page.{off_text}
use Rattle.picture.proofs.figures.put_off.Goals as goal

none-off : (which n : ℕ) → n ≡ 0 → [] ≡ off_text which n
unfolding off_text
none-off which n h = simp (eq-eqb n 0 h)

some-off : (which n : ℕ) → (n ≡ 0 → ⊥) → fill (choice which (ascii "; ~ above the scale|; ~ below the scale")) (n ∷ []) ≡ off_text which n
unfolding off_text
some-off which n h = simp (ne_eqb n 0 h)

pub returns-then-n-ne0 : goal.returns-then-n-ne0
returns-then-n-ne0 c = at_most (omega arith) (text-is (some-off c.args.which c.args.n c.if-n-ne0.true) c.put_choice.ensures)

pub returns-else-n-ne0 : goal.returns-else-n-ne0
returns-else-n-ne0 c = nothing_added (none-off c.args.which c.args.n c.if-n-ne0.false)
