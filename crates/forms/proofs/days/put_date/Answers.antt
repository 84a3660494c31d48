-- `forms::days::put_date` meets its contract: its parts are put one after another. Assumes nothing.
use native.Mathlib.Omega.{arith}
use Rattle.putting.proofs.Added.{then, at_most}
use Rattle.forms.specs.Days.{date_text}
use Rattle.forms.proofs.days.put_date.Goals as goal

pub returns : goal.returns
unfolding date_text
returns c = at_most (omega arith) (then (then c.put_year.ensures c.byte.ensures) c.put_month_day.ensures)
