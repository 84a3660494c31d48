-- `layers::gauge::gauge` meets its contract: after i turns it is what the pair's records in the first i noted slots come to. Assumes nothing.
use mathlib.Core.Path.{◌≡◌}
use Rattle.layers.specs.Gauged.{gauged_of}
use Rattle.layers.specs.Inside.Noted.{own_up_to}
use Rattle.layers.proofs.gauge.gauge.Given as goal

abbrev pub invariant-loop-slot : goal.invariant-loop-slot
invariant-loop-slot l = l.g ≡ gauged_of (own_up_to l.noted.sheet.now l.noted.pair l.noted.own.now l.slot-index)
