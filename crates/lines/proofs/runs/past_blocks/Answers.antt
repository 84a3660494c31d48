-- `lines::runs::past_blocks` meets its contract: at each turn the samples before i are alike, block by block. Assumes nothing.
use Prim.Native.Nat.{◌+◌}
use native.Mathlib.Omega.{arith}
use Rattle.lines.proofs.Alike.{run-front, run_join}
use Rattle.lines.proofs.runs.past_blocks.Goals as goal

pub loop-block-preserved : goal.loop-block-preserved
loop-block-preserved c =
    let a = c.args in
    let l = c.loop-block in
    run_join a.samples.now a.from l.i (l.i + 64) a.sample l.invariant
    (run-front a.samples.now c.in-Some.block.now l.i 64 64 a.sample l.invariant.there c.in-Some.ensures.cases (omega arith)
    (c.all_alike.ensures c.if-not-all_alike.false))
