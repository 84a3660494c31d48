-- `areas::checking::totals` meets its contract: after so many turns each sum is the total of those passed, each at most 65,535. Assumes nothing.
use Rattle.std.proofs.Common.{arith, refl}
use Rattle.areas.specs.Site.{feet, tenths, total}
use Rattle.areas.proofs.Totals.{total-next}
use Rattle.areas.proofs.checking.totals.Goals as goal

pub loop-t-init : goal.loop-t-init
unfolding total
loop-t-init c = (refl, omega arith, refl, omega arith)

pub loop-t-preserved : goal.loop-t-preserved
loop-t-preserved c =
    let part = c.args.part.now in
    let l = c.loop-t in
    let more = total-next feet part l.t-index (omega arith) in
    let more' = total-next tenths part l.t-index (omega arith) in
    let small = c.type_inv.part l.t-index in
    (omega arith, omega arith, omega arith, omega arith)
