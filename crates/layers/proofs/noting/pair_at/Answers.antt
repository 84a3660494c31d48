-- `layers::noting::pair_at` meets its contract: the bytes that it reads are those of the record's fields. Assumes nothing.
use mathlib.Core.Path.{◌∙◌}
use Prim.Native.Nat.{◌+◌, ◌*◌}
use Rattle.layers.proofs.MoreNoted.{pair-bytes}
use Rattle.layers.proofs.noting.pair_at.Goals as goal

pub returns : goal.returns
returns c =
    let high = c.from-high.ensures in
    let low = c.from-low.ensures in
    let settings = c.from-settings.ensures in
    (λ t. (high t * 256 + low t) * 0x10000 + settings t) ∙ pair-bytes c.args.sheet.now c.args.slot c.requires.slot_bound_2
