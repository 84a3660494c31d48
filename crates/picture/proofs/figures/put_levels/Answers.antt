-- `picture::figures::put_levels` meets its contract: its parts are put one after another. Assumes nothing.
use Rattle.std.proofs.Common.{arith}
use Rattle.putting.proofs.Added.{then, at_most}
use Rattle.picture.specs.Page.{levels_text}
use Rattle.picture.proofs.figures.put_levels.Goals as goal

pub returns : goal.returns
unfolding levels_text
returns c = at_most (omega arith) (then (then (then (then (then c.word.ensures c.put_bound.ensures) c.word-2.ensures) c.put_bound-2.ensures) c.word-3.ensures) c.put_last.ensures)
