-- The days that are left end in the month that is reached. Assumes nothing.
use mathlib.Core.Path.{sym, ◌∙◌}
use Rattle.calendar.proofs.Counted.{within}
use Rattle.calendar.proofs.leaps.Rest.by_months.Goals as goal

pub returns : goal.returns
returns c =
    let r = c.loop-next.r in
    sym (within r.year r.month r.left c.in_default.ensures) ∙ c.loop-next.invariant
