-- No row passed was out of order, and what the pass over all rows comes to is what it comes to from here over the rest.
use Rattle.std.proofs.Common.{◌*◌}
use Rattle.board.specs.Inside.ByValue.{passed}
use Rattle.board.proofs.Searched.{Passing}
use Rattle.board.proofs.value.find.Given as goal

abbrev pub invariant-loop-two : goal.invariant-loop-two
invariant-loop-two l = Passing l.address l.fn.held (passed l.s) (l.two-index * 2)
