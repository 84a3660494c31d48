-- `lines::step::after_low` meets its contract: each way out has the tests that lead there; a line that is low is not 0. Assumes nothing.
use mathlib.Core.Path.{◌∙◌}
use native.Mathlib.Omega.{arith}
use borrow.Author.Tests.{eq-eqb, ne_eqb}
use Rattle.lines.specs.SoFar.{so_far}
use Rattle.lines.specs.Step.{after_low}
use Rattle.lines.proofs.step.after_low.Goals as goal

pub returns-then-s-ne0 : goal.returns-then-s-ne0
unfolding after_low
returns-then-s-ne0 c =
    let f = c.args.s.fault in c.spoilt_by.ensures ∙ simp (ne_eqb f 0 c.if-s-ne0.true)

pub returns-then-s-line : goal.returns-then-s-line
unfolding after_low
returns-then-s-line c =
    let b = c.args in
    (λ i. so_far b.s.bits (c.longer.ensures i) b.s.count (c.if-s-line.true i) (c.if-s-ne0.false i))
    ∙ simp (eq-eqb b.s.fault 0 c.if-s-ne0.false, ne_eqb b.s.line 0 (omega arith), eq-eqb b.s.line b.line c.if-s-line.true)

pub returns-then-s-eq0 : goal.returns-then-s-eq0
unfolding after_low
returns-then-s-eq0 c =
    let b = c.args in
    (λ i. so_far b.s.bits 1 b.s.count b.line (c.if-s-ne0.false i)) ∙ simp (eq-eqb b.s.fault 0 c.if-s-ne0.false, eq-eqb b.s.line 0 c.if-s-eq0.true)

pub returns-else-s-eq0 : goal.returns-else-s-eq0
unfolding after_low
returns-else-s-eq0 c =
    let b = c.args in
    c.spoilt_by-else-s-eq0.ensures
    ∙ simp (eq-eqb b.s.fault 0 c.if-s-ne0.false, ne_eqb b.s.line 0 c.if-s-eq0.false, ne_eqb b.s.line b.line c.if-s-line.false)
