-- `picture::figures::put_bound` meets its contract, by its test. Assumes nothing.
use mathlib.Core.Path.{◌≡◌}
use Prim.Native.Nat.{ℕ}
use native.Mathlib.Omega.{arith}
use Rattle.putting.proofs.Added.{text-is, at_most}
use borrow.Author.Tests.{eq-eqb, ne_eqb}
use Rattle.listing.specs.Text.{ascii}
use Rattle.summary.specs.Line.{no_level}
use Rattle.forms.specs.Words.{level_text}
use Rattle.picture.specs.Page.{bound_text}
use Rattle.picture.proofs.figures.put_bound.Goals as goal

no-level : (settings n : ℕ) → n ≡ no_level → ascii "none" ≡ bound_text settings n
unfolding bound_text
no-level settings n h = simp (eq-eqb n no_level h)

a-level : (settings n : ℕ) → (n ≡ no_level → ⊥) → level_text settings n ≡ bound_text settings n
unfolding bound_text
a-level settings n h = simp (ne_eqb n no_level h)

pub returns-then-n-eq65535 : goal.returns-then-n-eq65535
returns-then-n-eq65535 c = at_most (omega arith) (text-is (no-level c.args.settings c.args.n c.if-n-eq65535.true) c.word.ensures)

pub returns-else-n-eq65535 : goal.returns-else-n-eq65535
returns-else-n-eq65535 c = text-is (a-level c.args.settings c.args.n c.if-n-eq65535.false) c.put_level.ensures
