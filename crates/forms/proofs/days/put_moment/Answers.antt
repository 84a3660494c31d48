-- `forms::days::put_moment` meets its contract: its parts are put one after another. Assumes nothing.
use native.Mathlib.Omega.{arith}
use Rattle.putting.proofs.Added.{then, at_most}
use Rattle.forms.specs.Days.{moment_text}
use Rattle.forms.proofs.days.put_moment.Goals as goal

pub returns : goal.returns
unfolding moment_text
returns c = at_most (omega arith) (then (then (then (then c.put_day.ensures c.word.ensures) c.put_two.ensures) c.byte.ensures) c.put_two-2.ensures)
