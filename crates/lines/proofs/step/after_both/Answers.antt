-- `lines::step::after_both` meets its contract: a byte above 3 that has come is kept. Assumes nothing.
use mathlib.Core.Path.{◌∙◌}
use borrow.Author.Tests.{eq-eqb, ne_eqb}
use Rattle.lines.specs.Step.{after_both}
use Rattle.lines.proofs.step.after_both.Goals as goal

pub returns-then-s-eq22 : goal.returns-then-s-eq22
unfolding after_both
returns-then-s-eq22 c =
    let f = c.args.s.fault in c.spoilt_by.ensures ∙ simp (eq-eqb f 22 c.if-s-eq22.true)

pub returns-else-s-eq22 : goal.returns-else-s-eq22
unfolding after_both
returns-else-s-eq22 c =
    let f = c.args.s.fault in c.spoilt_by-else-s-eq22.ensures ∙ simp (ne_eqb f 22 c.if-s-eq22.false)
