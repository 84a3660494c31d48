-- `areas::checking::is_kept` meets its contract: at each turn the runs left decide, since all that were passed are areas. Assumes nothing.
use Rattle.std.proofs.Common.{arith, refl, sym, ap, ◌∙◌, ◌+◌, true, false, drop}
use Rattle.std.proofs.lemmas.Bool.{lt-leb, le-leb}
use Rattle.areas.specs.Site.{is_area}
use Rattle.areas.specs.Check.{keeps}
use Rattle.areas.proofs.Cutting.{keeps-step, keeps-end}
use Rattle.areas.proofs.checking.is_kept.Goals as goal

pub returns-in_default : goal.returns-in_default
returns-in_default c =
    let l = c.loop-n in
    sym
    (l.invariant
    ∙ keeps-step l.left.now c.args.plan.now l.n-index c.from.result false _ (omega arith) (sym c.from.ensures) (lt-leb _ _ c.in_default.ensures.cases) refl)

pub returns-then-not-is_area : goal.returns-then-not-is_area
returns-then-not-is_area c =
    let l = c.loop-n in
    let run = c.in-Some.ensures.cases in
    sym
    (l.invariant
    ∙ keeps-step l.left.now c.args.plan.now l.n-index c.from.result true false (omega arith) (sym c.from.ensures) (le-leb _ _ run.0)
    (ap is_area (sym run.1) ∙ sym c.is_area.ensures ∙ c.if-not-is_area.true))

pub loop-n-preserved : goal.loop-n-preserved
loop-n-preserved c =
    let l = c.loop-n in
    let run = c.in-Some.ensures.cases in
    l.invariant
    ∙ keeps-step l.left.now c.args.plan.now l.n-index c.from.result true true (omega arith) (sym c.from.ensures) (le-leb _ _ run.0)
    (ap is_area (sym run.1) ∙ sym c.is_area.ensures ∙ c.if-not-is_area.false)
    ∙ (λ i. keeps (sym run.2 i) (drop (l.n-index + 1) c.args.plan.now))

pub returns : goal.returns
returns c =
    let l = c.loop-n in
    c.is_empty.ensures ∙ sym (l.invariant ∙ keeps-end l.left.now c.args.plan.now l.n-index (omega arith))
