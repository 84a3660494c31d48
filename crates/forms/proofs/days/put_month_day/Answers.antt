-- `forms::days::put_month_day` meets its contract: its parts are put one after another. Assumes nothing.
use native.Mathlib.Omega.{arith}
use Rattle.putting.proofs.Added.{then, at_most}
use Rattle.forms.specs.Days.{month_day_text}
use Rattle.forms.proofs.days.put_month_day.Goals as goal

pub returns : goal.returns
unfolding month_day_text
returns c = at_most (omega arith) (then (then c.put_two.ensures c.byte.ensures) c.put_two-2.ensures)
