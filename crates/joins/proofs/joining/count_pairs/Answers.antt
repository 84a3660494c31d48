-- `joins::joining::count_pairs` meets its contract. The invariant: the turns made and the lines left are those of the rows merged.
use mathlib.Core.Path.{sym, ap, ◌∙◌}
use native.Mathlib.Omega.{arith}
use lib.ListN.{length}
use Rattle.joins.proofs.Merging.{next-none, join-merged}
use Rattle.joins.proofs.joining.count_pairs.Goals as goal

pub returns : goal.returns
returns c =
    let none = next-none c.loop-left.left.now c.loop-left.right.now (omega arith) in
    omega (arith, c.loop-left.invariant.counted, ap length none) ∙ ap length (sym (join-merged c.args.a c.args.b c.requires.sound_2))
