-- `drawing::sisal_draw` meets its contract: each return is the list of refusals by what the tests gave. Assumes nothing.
use mathlib.Core.Path.{refl, sym, ◌∙◌}
use mathlib.Core.Bool.{true, false}
use Rattle.drawing.proofs.Answers.{fault-by, good-pulse, good-form, refuses, draws}
use Rattle.drawing.proofs.sisal_draw.Goals as goal

pub returns-then-bad_pulse : goal.returns-then-bad_pulse
returns-then-bad_pulse c =
    let a = c.args in
    let f = fault-by a.low a.still a.count a.message.now true _ (sym c.bad_pulse.ensures ∙ c.if-bad_pulse.true) refl in
    refuses a.low a.still a.count a.message.now a.from a.out.now 20 c.refusal.result f refl c.refusal.ensures

pub returns-then-not-formed : goal.returns-then-not-formed
returns-then-not-formed c =
    let a = c.args in
    let f =
    fault-by a.low a.still a.count a.message.now false false (sym c.bad_pulse.ensures ∙ c.if-bad_pulse.false)
    (sym c.formed.ensures ∙ c.if-not-formed.true) in
    refuses a.low a.still a.count a.message.now a.from a.out.now 14 c.refusal-then-not-formed.result f refl c.refusal-then-not-formed.ensures

pub draw-requires : goal.draw-requires
draw-requires c =
    let a = c.args in
    let g = good-pulse a.low a.still (sym c.bad_pulse.ensures ∙ c.if-bad_pulse.false) in
    let h = good-form a.count a.message.now (sym c.formed.ensures ∙ c.if-not-formed.false) in
    record { le_low = g.0; low_bound = g.1; still_bound = g.3; count_bound = h.0; message_len = h.1 }

pub returns : goal.returns
returns c =
    let a = c.args in
    let f =
    fault-by a.low a.still a.count a.message.now false true (sym c.bad_pulse.ensures ∙ c.if-bad_pulse.false)
    (sym c.formed.ensures ∙ c.if-not-formed.false) in
    draws a.low a.still a.count a.message.now a.from a.out.now c.draw.result _ f c.draw.ensures
