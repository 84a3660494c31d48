-- `frame::line::three` meets its contract: each return rewrites the definition with the tests that led there. Assumes nothing.
use borrow.Author.Tests.{le-leb, lt-leb}
use Rattle.frame.specs.Inside.Packed.{three_by}
use Rattle.frame.proofs.line.three.Goals.{then-hundreds-gt9-via-then-hundreds-gt9, then-hundreds-gt9-via-else-hundreds-gt9+then-tens-gt9, then-hundreds-gt9-via-else-hundreds-gt9+else-tens-gt9+then-units-gt9}
use Rattle.frame.proofs.line.three.Goals as goal

pub returns-then-hundreds-gt9-clause-value : goal.returns-then-hundreds-gt9-clause-value
unfolding three_by
returns-then-hundreds-gt9-clause-value c =
    elim c.then-hundreds-gt9.branch [
      | then-hundreds-gt9-via-then-hundreds-gt9 w ↦ simp (lt-leb _ _ w.if-hundreds-gt9.true)
      | then-hundreds-gt9-via-else-hundreds-gt9+then-tens-gt9 w ↦ simp (le-leb _ _ w.if-hundreds-gt9.false, lt-leb _ _ w.if-tens-gt9.true)
      | then-hundreds-gt9-via-else-hundreds-gt9+else-tens-gt9+then-units-gt9 w ↦
          simp (le-leb _ _ w.if-hundreds-gt9.false, le-leb _ _ w.if-tens-gt9.false, lt-leb _ _ w.if-units-gt9.true)
    ]

pub returns-clause-value : goal.returns-clause-value
unfolding three_by
returns-clause-value c = simp (le-leb _ _ c.if-hundreds-gt9.false, le-leb _ _ c.if-tens-gt9.false, le-leb _ _ c.if-units-gt9.false)
