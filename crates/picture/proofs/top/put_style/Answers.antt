-- `picture::top::put_style` meets its contract: its parts are put one after another. Assumes nothing.
use Rattle.std.proofs.Common.{arith}
use Rattle.putting.proofs.Added.{then, at_most}
use Rattle.picture.proofs.top.put_style.Goals as goal

pub returns : goal.returns
returns c = at_most (omega arith) (then (then (then c.put_opening.ensures c.put_rules.ensures) c.put_scales.ensures) c.put_shapes.ensures)
