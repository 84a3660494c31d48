-- `polling::drawing_out::poll` meets its contract: an address that has no poll puts nothing down; else `sisal_draw` draws the two bytes. Assumes nothing.
use mathlib.Core.Path.{sym, ◌∙◌}
use Rattle.frame.proofs.Verdicts.{was-passed, was-refused}
use Rattle.polling.proofs.Paces.{good}
use Rattle.polling.proofs.Putting.{poll-bytes, has-poll, has-none, no-poll, its-poll}
use Rattle.polling.proofs.drawing_out.poll.Goals as goal

pub returns-in-Ok : goal.returns-in-Ok
returns-in-Ok c =
    let a = c.args in
    let asked = has-poll a.address (was-passed _ 2 _ (sym c.write_poll.ensures.answers ∙ c.in-Ok.is)) in
    let d = c.sisal_draw-done in
    its-poll a.p a.address a.from a.out.now asked (good a.p c.requires).pulses
    _ (c.write_poll.ensures.leaves ∙ poll-bytes a.address asked) d.result _ d.ensures

pub returns-in-Err : goal.returns-in-Err
returns-in-Err c =
    let a = c.args in
    let w = was-refused _ 2 _ (sym c.write_poll.ensures.answers ∙ c.in-Err.is) in
    no-poll a.p a.address a.from a.out.now (has-none a.address w.0)
