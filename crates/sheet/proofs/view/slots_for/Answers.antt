-- `sheet::view::slots_for` meets its contract: each return is the definition after the test that led there. Assumes nothing.
use mathlib.Core.Path.{sym, ◌∙◌}
use Rattle.sheet.specs.View.{slots_for}
use Rattle.sheet.proofs.view.slots_for.Goals as goal

pub returns-then-size_allowed : goal.returns-then-size_allowed
unfolding slots_for
returns-then-size_allowed c = simp (sym c.size_allowed.ensures ∙ c.if-size_allowed.true)

pub returns-else-size_allowed : goal.returns-else-size_allowed
unfolding slots_for
returns-else-size_allowed c = simp (sym c.size_allowed.ensures ∙ c.if-size_allowed.false)
