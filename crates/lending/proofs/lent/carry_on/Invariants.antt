-- What is still to be carried makes of the run what the whole makes of it.
use Rattle.std.proofs.Common.{◌≡◌, ◌-◌, length}
use Rattle.board.specs.Inside.ByValue.{carry}
use Rattle.lending.proofs.lent.carry_on.Given as goal

abbrev pub invariant-loop-place : goal.invariant-loop-place
invariant-loop-place l = carry 1 0 (length l.run - l.place-index) l.place-index l.held l.run ≡ carry 1 0 (length l.initial.run) 0 l.initial.held l.initial.run
