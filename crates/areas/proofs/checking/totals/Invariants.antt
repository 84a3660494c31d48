-- `areas::checking::totals` meets its contract: after so many turns each sum is the total of those passed, each at most 65,535. Assumes nothing.
use Rattle.std.proofs.Common.{◌≡◌, ◌*◌, ◌≤◌, take}
use Rattle.areas.specs.Site.{feet, tenths, total}
use Rattle.areas.proofs.checking.totals.Given as goal

abbrev pub invariant-loop-t : goal.invariant-loop-t
invariant-loop-t l =
    (l.sums.feet ≡ total feet (take l.t-index l.part)) × (l.sums.feet ≤ 65535 * l.t-index)
    × (l.sums.tenths ≡ total tenths (take l.t-index l.part))
    × (l.sums.tenths ≤ 65535 * l.t-index)
