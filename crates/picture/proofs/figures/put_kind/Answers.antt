-- `picture::figures::put_kind` meets its contract, by its test. Assumes nothing.
use mathlib.Core.Path.{◌≡◌, ◌∙◌}
use mathlib.Core.List.{[], ◌∷◌, ◌++◌}
use Prim.Native.Nat.{ℕ, ◌-◌}
use native.Mathlib.Omega.{arith}
use Rattle.putting.proofs.Added.{then, text-is, at_most, nothing_added}
use borrow.Author.Tests.{eq-eqb, ne_eqb}
use Rattle.listing.specs.Text.{ascii}
use lib.Dec.{ltb}
use Rattle.frame.specs.Pick.{pick}
use Rattle.forms.specs.Form.{fill}
use Rattle.forms.specs.Words.{fault_text}
use Rattle.picture.specs.Page.{kind_text}
use Rattle.picture.proofs.figures.put_kind.Goals as goal

no_kind : (n k : ℕ) → n ≡ 0 → [] ≡ kind_text n k
unfolding kind_text
no_kind n k h = simp (eq-eqb n 0 h)

some-kind : (n k fault place : ℕ) → (n ≡ 0 → ⊥) → fault ≡ pick (ltb k 10) k 7 → place ≡ k - 10 → fill (ascii "; ~ ") (n ∷ []) ++ fault_text fault place ≡ kind_text n k
unfolding kind_text
some-kind n k fault place h f p = (λ i. fill (ascii "; ~ ") (n ∷ []) ++ fault_text (f i) (p i)) ∙ simp (ne_eqb n 0 h)

pub returns-then-n-ne0 : goal.returns-then-n-ne0
returns-then-n-ne0 c = at_most (omega arith) (text-is (some-kind c.args.n c.args.k _ _ c.if-n-ne0.true c.fault_of.ensures c.saturating_sub.ensures) (then c.put_form.ensures c.put_fault.ensures))

pub returns-else-n-ne0 : goal.returns-else-n-ne0
returns-else-n-ne0 c = nothing_added (no_kind c.args.n c.args.k c.if-n-ne0.false)
