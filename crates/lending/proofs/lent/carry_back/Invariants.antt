-- What is still to be carried makes of the run what the whole makes of it.
use Rattle.std.proofs.Common.{◌≡◌, length}
use Rattle.board.specs.Inside.ByValue.{carry}
use Rattle.lending.proofs.lent.carry_back.Given as goal

abbrev pub invariant-loop-i : goal.invariant-loop-i
invariant-loop-i l = carry 0 1 l.i l.i l.held l.run ≡ carry 0 1 (length l.initial.run) (length l.initial.run) l.initial.held l.initial.run
