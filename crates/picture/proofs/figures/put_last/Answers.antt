-- `picture::figures::put_last` meets its contract, by its test. Assumes nothing.
use mathlib.Core.Path.{◌≡◌}
use mathlib.Core.List.{◌++◌}
use Prim.Native.Nat.{ℕ}
use native.Mathlib.Omega.{arith}
use Rattle.putting.proofs.Added.{then, text-is, at_most}
use borrow.Author.Tests.{eq-eqb, ne_eqb}
use Rattle.listing.specs.Text.{ascii}
use Rattle.layers.specs.declared.gauge.Gauged.{Gauged}
use Rattle.summary.specs.Line.{no_level}
use Rattle.std.specs.Prelude.{Option}
use Rattle.calendar.specs.declared.counting.Day.{Day}
use Rattle.forms.specs.Days.{moment_text}
use Rattle.forms.specs.Words.{level_text}
use Rattle.picture.specs.Page.{last_text}
use Rattle.picture.proofs.figures.put_last.Goals as goal

no-level : (begin : Option Day) (settings : ℕ) (g : Gauged) → g.last ≡ no_level → ascii "none" ≡ last_text begin settings g
unfolding last_text
no-level begin settings g h = simp (eq-eqb g.last no_level h)

a-level : (begin : Option Day) (settings : ℕ) (g : Gauged) → (g.last ≡ no_level → ⊥) → level_text settings g.last ++ ascii ", " ++ moment_text begin g.when ≡ last_text begin settings g
unfolding last_text
a-level begin settings g h = simp (ne_eqb g.last no_level h)

pub returns-then-g-eq65535 : goal.returns-then-g-eq65535
returns-then-g-eq65535 c = at_most (omega arith) (text-is (no-level c.args.begin c.args.settings c.args.g c.if-g-eq65535.true) c.word.ensures)

pub returns-else-g-eq65535 : goal.returns-else-g-eq65535
returns-else-g-eq65535 c = at_most (omega arith) (text-is (a-level c.args.begin c.args.settings c.args.g c.if-g-eq65535.false) (then (then c.put_level.ensures c.word-else-g-eq65535.ensures) c.put_moment.ensures))
