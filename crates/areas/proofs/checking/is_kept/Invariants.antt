-- `areas::checking::is_kept` meets its contract: at each turn the runs left decide, since all that were passed are areas. Assumes nothing.
use Rattle.std.proofs.Common.{◌≡◌, drop}
use Rattle.areas.specs.Check.{keeps}
use Rattle.areas.proofs.checking.is_kept.Given as goal

abbrev pub invariant-loop-n : goal.invariant-loop-n
invariant-loop-n l = keeps l.fn.site l.plan ≡ keeps l.left (drop l.n-index l.plan)
