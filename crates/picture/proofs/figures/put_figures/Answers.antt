-- `picture::figures::put_figures` meets its contract: its parts are put one after another. Assumes nothing.
use Rattle.std.proofs.Common.{arith}
use Rattle.putting.proofs.Added.{then, at_most}
use Rattle.picture.specs.Page.{figures_text}
use Rattle.picture.proofs.figures.put_figures.Goals as goal

pub returns : goal.returns
unfolding figures_text
returns c = at_most (omega arith) (then (then (then (then (then (then (then c.put_levels.ensures c.word.ensures) c.put_heat.ensures) c.put_off.ensures) c.put_off-2.ensures) c.put_form.ensures) c.put_kinds.ensures) c.word-2.ensures)
