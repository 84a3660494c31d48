-- `areas::planning::first_area` meets its contract: at each turn the area is those passed and those that yet join it. Assumes nothing.
use Rattle.std.proofs.Common.{arith, ◌≡◌, ◌+◌, sym, true, false, drop, get_or}
use Rattle.areas.specs.Site.{feet, tenths}
use Rattle.areas.specs.Plan.{joining}
use Rattle.areas.proofs.Joining.{joins-so, joining-step, joining-end}
use Rattle.areas.proofs.planning.first_area.Goals as goal

pub returns-in_default : goal.returns-in_default
returns-in_default c =
    let l = c.loop-t in
    let stop = joining-step l.area.0 l.area.1.0 l.area.1.1.0 c.args.site.now l.t-index false (omega arith) c.in_default.ensures in
    let whole = l.invariant.4 in
    (omega arith, omega arith, omega arith)

pub loop-t-preserved : goal.loop-t-preserved
loop-t-preserved c =
    let s = c.args.site.now in
    let l = c.loop-t in
    let a = c.in-Some.larger in
    let t = get_or s l.t-index 0 in
    let e = c.in-Some.ensures in
    let so = joins-so l.area.0 l.area.1.0 l.area.1.1.0 t e.0 in
    let step = joining-step l.area.0 l.area.1.0 l.area.1.1.0 s l.t-index true (omega arith) e.0 in
    let same : joining (l.area.0 + 1) (l.area.1.0 + feet t) (l.area.1.1.0 + tenths t) (drop (l.t-index + 1) s)
    ≡ joining a.many a.feet a.tenths (drop (l.t-index + 1) s) =
    λ k. joining (sym e.1 k) (sym e.2 k) (sym e.3 k) (drop (l.t-index + 1) s) in
    let whole = l.invariant.4 in
    (omega arith, omega arith, omega arith, omega arith, omega arith)

pub returns : goal.returns
returns c =
    let l = c.loop-t in
    let none = joining-end l.area.0 l.area.1.0 l.area.1.1.0 c.args.site.now l.t-index (omega arith) in
    let whole = l.invariant.4 in
    (omega arith, omega arith, omega arith)
