-- `lines::step::after_idle` meets its contract: a line was low, or none was. Assumes nothing.
use mathlib.Core.Path.{◌∙◌}
use borrow.Author.Tests.{eq-eqb, ne_eqb}
use Rattle.lines.specs.Step.{after_idle}
use Rattle.lines.proofs.step.after_idle.Goals as goal

pub returns-then-s-eq0 : goal.returns-then-s-eq0
unfolding after_idle
returns-then-s-eq0 c = c.longer_idle.ensures ∙ simp (eq-eqb c.args.s.line 0 c.if-s-eq0.true)

pub returns-else-s-eq0 : goal.returns-else-s-eq0
unfolding after_idle
returns-else-s-eq0 c = c.run_ended.ensures ∙ simp (ne_eqb c.args.s.line 0 c.if-s-eq0.false)
