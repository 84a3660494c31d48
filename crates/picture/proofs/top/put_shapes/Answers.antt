-- `picture::top::put_shapes` meets its contract: its parts are put one after another. Assumes nothing.
use Rattle.std.proofs.Common.{arith}
use Rattle.putting.proofs.Added.{then, at_most}
use Rattle.picture.proofs.top.put_shapes.Goals as goal

pub returns : goal.returns
returns c = at_most (omega arith) (then (then (then c.word.ensures c.word-2.ensures) c.word-3.ensures) c.word-4.ensures)
