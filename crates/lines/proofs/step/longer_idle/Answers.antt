-- `lines::step::longer_idle` meets its contract: the run grows where something is open. Assumes nothing.
use mathlib.Core.Path.{sym, ◌∙◌}
use Prim.Native.Nat.{◌+◌}
use Rattle.lines.specs.SoFar.{so_far}
use Rattle.lines.specs.Step.{longer_idle}
use Rattle.lines.proofs.step.longer_idle.Goals as goal

pub returns-then-is_open : goal.returns-then-is_open
unfolding longer_idle
returns-then-is_open c =
    let s = c.args.s in
    (λ i. so_far s.bits (s.run + 1) s.count (c.requires.line_value i) s.fault) ∙ simp (sym c.is_open.ensures ∙ c.if-is_open.true)

pub returns-else-is_open : goal.returns-else-is_open
unfolding longer_idle
returns-else-is_open c = simp (sym c.is_open.ensures ∙ c.if-is_open.false)
