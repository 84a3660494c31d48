-- `cards::counting::count` meets its contract: after k turns the first k slots are counted, and each of them once at most. Assumes nothing.
use Rattle.std.proofs.Common.{◌≡◌}
use Rattle.cards.specs.Tally.{tally_up_to}
use Rattle.cards.proofs.counting.count.Given as goal

abbrev pub invariant-loop-k : goal.invariant-loop-k
invariant-loop-k l = l.t ≡ tally_up_to l.sheet l.k
