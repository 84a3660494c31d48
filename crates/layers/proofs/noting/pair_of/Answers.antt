-- Address and settings as one number, as the summary has them. Assumes nothing.
use Prim.Native.Nat.{◌+◌, ◌*◌}
use Rattle.summary.specs.Line.{pair_by}
use Rattle.layers.proofs.noting.pair_of.Goals as goal

pub returns : goal.returns
unfolding pair_by
returns c =
    let address = c.from.ensures in
    let settings = c.from-2.ensures in
    λ i. address i * 0x10000 + settings i
