-- `lines::step::grown` meets its contract: each return is the definition after the tests that lead there. Assumes nothing.
use mathlib.Core.Path.{sym, ◌∙◌}
use borrow.Author.Tests.{eq-eqb, ne_eqb}
use Rattle.lines.specs.Inside.Runs.{grown}
use Rattle.lines.proofs.step.grown.Goals as goal

pub returns-then-is_open : goal.returns-then-is_open
unfolding grown
returns-then-is_open c =
    sym (simp (eq-eqb c.args.sample 0 c.if-sample-eq0.true, sym c.is_open.ensures ∙ c.if-is_open.true, c.longer.ensures))

pub returns-else-is_open : goal.returns-else-is_open
unfolding grown
returns-else-is_open c = sym (simp (eq-eqb c.args.sample 0 c.if-sample-eq0.true, sym c.is_open.ensures ∙ c.if-is_open.false))

pub returns-then-s-eq0 : goal.returns-then-s-eq0
unfolding grown
returns-then-s-eq0 c = sym (simp (ne_eqb c.args.sample 0 c.if-sample-eq0.false, eq-eqb c.args.s.line 0 c.if-s-eq0.true))

pub returns-else-s-eq0 : goal.returns-else-s-eq0
unfolding grown
returns-else-s-eq0 c =
    sym (simp (ne_eqb c.args.sample 0 c.if-sample-eq0.false, ne_eqb c.args.s.line 0 c.if-s-eq0.false, c.longer-else-s-eq0.ensures))
