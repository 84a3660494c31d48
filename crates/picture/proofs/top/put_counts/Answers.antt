-- `picture::top::put_counts` meets its contract: its parts are put one after another. Assumes nothing.
use Rattle.std.proofs.Common.{arith}
use Rattle.putting.proofs.Added.{then, at_most}
use Rattle.picture.specs.Page.{counts_text}
use Rattle.picture.proofs.top.put_counts.Goals as goal

pub returns : goal.returns
unfolding counts_text
returns c = at_most (omega arith) (then (then (then c.word.ensures c.word-2.ensures) c.put_form.ensures) c.put_when.ensures)
