-- `lines::step::wanted` meets its contract: each return is the definition after the tests that lead there. Assumes nothing.
use mathlib.Core.Path.{sym, ◌∙◌}
use native.Mathlib.Omega.{arith}
use borrow.Author.Tests.{eq-eqb, ne_eqb}
use Rattle.lines.specs.Inside.Runs.{wanted_of}
use Rattle.lines.proofs.step.wanted.Goals as goal
use Rattle.lines.proofs.step.wanted.Goals.{else-sample-eq0-via-then-sample-eq0+else-is_open, else-sample-eq0-via-else-sample-eq0}

pub returns-then-left-more : goal.returns-then-left-more
unfolding wanted_of
returns-then-left-more c =
    let is-so = sym c.is_open.ensures ∙ c.if-is_open.true in
    (c.saturating_sub-left.ensures ∙ sym (simp (eq-eqb c.args.sample 0 c.if-sample-eq0.true, is-so)), omega arith)

pub returns-else-left-more : goal.returns-else-left-more
unfolding wanted_of
returns-else-left-more c =
    let is-so = sym c.is_open.ensures ∙ c.if-is_open.true in
    simp (eq-eqb c.args.sample 0 c.if-sample-eq0.true, is-so) (omega (arith, c.saturating_sub-left.ensures))

pub returns-else-sample-eq0 : goal.returns-else-sample-eq0
unfolding wanted_of
returns-else-sample-eq0 c =
    elim c.else-sample-eq0.branch [
      | else-sample-eq0-via-then-sample-eq0+else-is_open w ↦ simp (eq-eqb c.args.sample 0 w.if-sample-eq0.true, sym w.is_open.ensures ∙ w.if-is_open.false) c.requires
      | else-sample-eq0-via-else-sample-eq0 w ↦ simp (ne_eqb c.args.sample 0 w.if-sample-eq0.false) c.requires
    ]
