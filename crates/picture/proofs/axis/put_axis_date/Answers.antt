-- `picture::axis::put_axis_date` meets its contract: its parts are put one after another. Assumes nothing.
use Rattle.std.proofs.Common.{arith}
use Rattle.putting.proofs.Added.{then, at_most}
use Rattle.picture.proofs.axis.put_axis_date.Goals as goal

pub returns : goal.returns
returns c = at_most (omega arith) (then (then c.put_year.ensures c.word.ensures) c.put_month_day.ensures)
