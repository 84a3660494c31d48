-- `lines::runs::all_alike` meets its contract: after so many turns, if no bit differed, the samples passed are alike. Assumes nothing.
use Prim.Native.Nat.{◌+◌}
use lib.Bits.{bit_xor}
use lib.ListN.{get_or}
use Rattle.lines.proofs.Words.{or-none, xor-none}
use Rattle.lines.proofs.Alike.{alike-one, alike-join}
use Rattle.lines.proofs.runs.all_alike.Goals as goal

pub loop-x-preserved : goal.loop-x-preserved
loop-x-preserved c =
    λ e.
    let a = c.args in
    let l = c.loop-x in
    let block = a.block.now in
    let b = get_or block l.x-index 0 in
    let none = or-none l.any (bit_xor b a.sample) e in
    alike-join block 0 l.x-index (l.x-index + 1) a.sample (l.invariant none.0) (alike-one block l.x-index a.sample (xor-none b a.sample none.1))
