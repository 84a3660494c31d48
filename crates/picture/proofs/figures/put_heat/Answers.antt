-- `picture::figures::put_heat` meets its contract, by its test. Assumes nothing.
use mathlib.Core.Path.{◌≡◌}
use mathlib.Core.List.{◌++◌}
use Prim.Native.Nat.{◌<◌, ◌≤◌}
use native.Mathlib.Omega.{arith}
use Rattle.putting.proofs.Added.{then, text-is, at_most}
use borrow.Author.Tests.{lt-ltb, le-ltb}
use Rattle.listing.specs.Text.{ascii}
use Rattle.layers.specs.declared.gauge.Gauged.{Gauged}
use Rattle.forms.specs.Words.{degrees_text}
use Rattle.picture.specs.Page.{heat_text}
use Rattle.picture.proofs.figures.put_heat.Goals as goal

no-heat : (g : Gauged) → g.warm < g.cold → ascii "none" ≡ heat_text g
unfolding heat_text
no-heat g h = simp (lt-ltb g.warm g.cold h)

some-heat : (g : Gauged) → g.cold ≤ g.warm → degrees_text g.cold ++ ascii " to " ++ degrees_text g.warm ≡ heat_text g
unfolding heat_text
some-heat g h = simp (le-ltb g.warm g.cold h)

pub returns-then-g : goal.returns-then-g
returns-then-g c = at_most (omega arith) (text-is (no-heat c.args.g c.if-g.true) c.word.ensures)

pub returns-else-g : goal.returns-else-g
returns-else-g c = at_most (omega arith) (text-is (some-heat c.args.g c.if-g.false) (then (then c.put_degrees.ensures c.word-else-g.ensures) c.put_degrees-else-g.ensures))
