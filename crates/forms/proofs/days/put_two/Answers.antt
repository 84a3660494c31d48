-- `forms::days::put_two` meets its contract: one digit after the other. Assumes nothing.
use Rattle.putting.proofs.Added.{then}
use Rattle.forms.specs.Days.{two_digits}
use Rattle.forms.proofs.days.put_two.Goals as goal

pub returns : goal.returns
unfolding two_digits
returns c = then c.byte.ensures c.byte-2.ensures
