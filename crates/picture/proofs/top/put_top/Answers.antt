-- `picture::top::put_top` meets its contract: its parts are put one after another. Assumes nothing.
use Rattle.std.proofs.Common.{arith}
use Rattle.putting.proofs.Added.{then, at_most}
use Rattle.picture.specs.Page.{top_text}
use Rattle.picture.proofs.top.put_top.Goals as goal

pub returns : goal.returns
unfolding top_text
returns c = at_most (omega arith) (then (then (then (then c.put_counts.ensures c.word.ensures) c.put_others.ensures) c.put_legend.ensures) c.put_form.ensures)
