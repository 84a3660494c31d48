-- `joins::joining::turn` meets its contract: a row at its end leaves the turn to the other, and else the pairs of the first lines are compared.
use mathlib.Core.Path.{◌≡◌}
use Prim.Native.Nat.{◌<◌}
use lib.ListN.{length}
use Rattle.std.proofs.Common.{rules}
use Rattle.std.proofs.lemmas.Cmp.{ranked}
use Rattle.joins.proofs.Merging.{turned, turn-first, turn-second}
use Rattle.joins.proofs.joining.turn.Goals as goal

pub returns-then-is_empty : goal.returns-then-is_empty
returns-then-is_empty c =
    let none : length c.args.right.now ≡ 0 = search rules in turn-first c.args.left.now c.args.right.now none c.requires

pub returns-then-is_empty-2 : goal.returns-then-is_empty-2
returns-then-is_empty-2 c =
    let none : length c.args.left.now ≡ 0 = search rules in turn-second c.args.left.now c.args.right.now none c.requires

pub returns-else-is_empty-2 : goal.returns-else-is_empty-2
returns-else-is_empty-2 c =
    let near : 0 < length c.args.left.now = search rules in
    let here : 0 < length c.args.right.now = search rules in
    let told = rw (c.pair_of.ensures, c.pair_of-else-is_empty-2.ensures) at c.cmp.ensures in
    turned c.args.left.now c.args.right.now near here c.cmp.result (ranked _ _ _ told)
