-- `sheet::next::pass` meets its contract: at each turn the slot sought among the first slots is the one sought among the first k of them, since those passed
-- are blank. Assumes nothing.
use Rattle.std.proofs.Common.{◌≡◌, ◌≤◌}
use Rattle.sheet.specs.Slots.{next_up_to}
use Rattle.sheet.proofs.next.pass.Given as goal

abbrev pub invariant-loop-k : goal.invariant-loop-k
invariant-loop-k g l = (l.low ≤ l.k) × (l.k ≤ l.from) × (next_up_to l.sheet l.from ≡ next_up_to l.sheet l.k)

abbrev pub decreases-loop-k : goal.decreases-loop-k
decreases-loop-k g l = l.k
