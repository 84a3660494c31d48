-- `lines::runs::run_end` meets its contract: at each turn the samples before i are alike, by words and by blocks. Assumes nothing.
use Prim.Native.Nat.{◌-◌}
use lib.ListN.{length}
use Rattle.lines.specs.Inside.Runs.{RunTo}
use Rattle.lines.proofs.runs.run_end.Given as goal

abbrev pub invariant-loop-eight : goal.invariant-loop-eight
invariant-loop-eight l = RunTo l.samples l.from l.i l.sample

abbrev pub decreases-loop-eight : goal.decreases-loop-eight
decreases-loop-eight l = length l.samples - l.i
