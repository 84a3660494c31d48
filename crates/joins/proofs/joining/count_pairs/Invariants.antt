-- `joins::joining::count_pairs` meets its contract. The invariant: the turns made and the lines left are those of the rows merged.
use mathlib.Core.Path.{◌≡◌}
use Prim.Native.Nat.{◌+◌, ◌≤◌}
use lib.ListN.{length}
use Rattle.joins.specs.Inside.Joining.{merged}
use Rattle.joins.proofs.joining.count_pairs.Given as goal

abbrev pub invariant-loop-left : goal.invariant-loop-left
invariant-loop-left l =
    record {
      few : l.pairs + (length l.left + length l.right) ≤ 60;
      counted : l.pairs + length (merged l.left l.right) ≡ length (merged l.initial.left l.initial.right);
    }

abbrev pub decreases-loop-left : goal.decreases-loop-left
decreases-loop-left l = length l.left + length l.right
