-- `lines::step::run_ended` meets its contract: one test of the length and of the room decides. Assumes nothing.
use mathlib.Core.Path.{◌∙◌}
use Rattle.lines.specs.Step.{run_ended}
use Rattle.lines.proofs.step.run_ended.Goals as goal

pub returns-then-least-run : goal.returns-then-least-run
unfolding run_ended
returns-then-least-run c = c.with_bit.ensures ∙ simp c.if-least-run.true

pub returns-else-least-run : goal.returns-else-least-run
unfolding run_ended
returns-else-least-run c = c.spoilt_by.ensures ∙ simp c.if-least-run.false
