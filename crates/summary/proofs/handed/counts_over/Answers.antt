-- `summary::handed::counts_over` meets its contract: the first count that is over decides.
use borrow.Author.Tests.{lt-ltb, le-ltb}
use Rattle.summary.specs.Handed.{counts_over}
use Rattle.summary.proofs.handed.counts_over.Goals as goal

pub returns-then-line-gt-MOST : goal.returns-then-line-gt-MOST
unfolding counts_over
returns-then-line-gt-MOST c = simp (lt-ltb _ _ c.if-line-gt-MOST.true)

pub returns-else-line-gt-MOST : goal.returns-else-line-gt-MOST
unfolding counts_over
returns-else-line-gt-MOST c = simp (le-ltb _ _ c.if-line-gt-MOST.false)
