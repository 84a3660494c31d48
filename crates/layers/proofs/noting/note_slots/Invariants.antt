-- `layers::noting::note_slots` meets its contract: what is noted of the first k slots is what they hold of the pair. Assumes nothing.
use mathlib.Core.Path.{◌≡◌}
use lib.ListN.{length}
use Rattle.layers.proofs.MoreNoted.{NotedTo}
use Rattle.layers.proofs.noting.note_slots.Given as goal

abbrev pub invariant-loop-k : goal.invariant-loop-k
invariant-loop-k l = (length l.slots ≡ 2048) × NotedTo l.sheet l.pair l.slots l.count l.k
