-- `lines::runs::past_blocks` meets its contract: at each turn the samples before i are alike, block by block. Assumes nothing.
use Prim.Native.Nat.{◌-◌}
use lib.ListN.{length}
use Rattle.lines.specs.Inside.Runs.{RunTo}
use Rattle.lines.proofs.runs.past_blocks.Given as goal

abbrev pub invariant-loop-block : goal.invariant-loop-block
invariant-loop-block l = RunTo l.samples l.from l.i l.sample

abbrev pub decreases-loop-block : goal.decreases-loop-block
decreases-loop-block l = length l.samples - l.i
