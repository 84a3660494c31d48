-- `picture::section::put_scale` meets its contract: its parts are put one after another. Assumes nothing.
use Rattle.std.proofs.Common.{arith}
use Rattle.putting.proofs.Added.{then, at_most}
use Rattle.picture.specs.Page.{scale_text}
use Rattle.picture.proofs.section.put_scale.Goals as goal

pub returns : goal.returns
unfolding scale_text
returns c = at_most (omega arith) (then (then (then (then (then (then c.word.ensures c.put_value.ensures) c.word-2.ensures) c.put_label.ensures) c.word-3.ensures) c.put_value-2.ensures) c.word-4.ensures)
