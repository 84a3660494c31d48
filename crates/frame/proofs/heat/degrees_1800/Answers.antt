-- `frame::heat::degrees_1800` meets its contract: each return rewrites the definition with the tests that led there. Within the range there
-- is at most one hundred, which fits above sign and digits. Assumes nothing.
use borrow.Author.Tests.{le-leb, lt-leb}
use Rattle.frame.specs.Temperature.{put_degrees_1800}
use Rattle.frame.proofs.heat.degrees_1800.Goals as goal

pub returns-then-m-le-LIMIT_1800 : goal.returns-then-m-le-LIMIT_1800
unfolding put_degrees_1800
returns-then-m-le-LIMIT_1800 c = simp (le-leb _ _ c.if-m-le-LIMIT_1800.true, c.put_degrees.ensures)

pub returns-then-plus : goal.returns-then-plus
unfolding put_degrees_1800
returns-then-plus c = simp (lt-leb _ _ c.if-m-le-LIMIT_1800.false, c.if-plus.true)

pub returns : goal.returns
unfolding put_degrees_1800
returns c = simp (lt-leb _ _ c.if-m-le-LIMIT_1800.false, c.if-plus.false)
