-- `lines::state::meant` meets its contract: a legal state is itself, and any other is a spoiled message; both are safe. Assumes nothing.
use mathlib.Core.Path.{sym, ◌∙◌}
use native.Mathlib.Omega.{arith}
use Rattle.lines.specs.SoFar.{meant}
use Rattle.lines.proofs.Kept.{legal-safe, bare}
use Rattle.lines.proofs.state.meant.Goals as goal

pub returns-then-legal : goal.returns-then-legal
unfolding meant
returns-then-legal c =
    let s = c.args.s in
    let e = sym c.legal.ensures ∙ c.if-legal.true in
    (simp e, legal-safe s e)

pub returns-else-legal : goal.returns-else-legal
unfolding meant
returns-else-legal c =
    let e = sym c.legal.ensures ∙ c.if-legal.false in
    (c.spoilt_by.ensures ∙ simp e, rw c.spoilt_by.ensures (bare 21 0 (omega arith)))
