-- `joins::joining::add_lines` meets its contract. The invariant: the lines stored are the first of the two rows merged, and the rest is left of the rows.
use Prim.Native.Nat.{◌+◌, ◌≤◌}
use lib.ListN.{length}
use Rattle.summary.specs.Handed.{most}
use Rattle.summary.proofs.PutAll.{AllFew}
use Rattle.joins.specs.Inside.Joining.{merged}
use Rattle.joins.proofs.Merging.{Merging}
use Rattle.joins.proofs.joining.add_lines.Given as goal

abbrev pub invariant-loop-left : goal.invariant-loop-left
invariant-loop-left l =
    record {
      so_far : Merging (merged l.initial.left l.initial.right) l.lines l.count l.left l.right;
      few : length l.left + length l.right ≤ 60;
      few_first : AllFew most l.left;
      few_second : AllFew most l.right;
    }

abbrev pub decreases-loop-left : goal.decreases-loop-left
decreases-loop-left l = length l.left + length l.right
