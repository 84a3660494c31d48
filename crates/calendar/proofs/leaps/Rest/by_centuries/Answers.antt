-- So many times 400 years are so many times 146,097 days. Assumes nothing.
use mathlib.Core.Path.{◌≡◌, sym, ◌∙◌}
use Prim.Native.Nat.{ℕ, ◌+◌, ◌-◌, ◌*◌, ◌/◌, ◌≤◌}
use native.Mathlib.Omega.{arith}
use Rattle.calendar.specs.Days.{first_of_month, days_after}
use Rattle.calendar.proofs.Years.{centuries-less}
use Rattle.calendar.proofs.leaps.Rest.by_centuries.Goals as goal

-- from a January
from-january : (year month left : ℕ) → month ≡ 1 → left / 146097 ≤ 100000 → year ≤ 4000000000 → days_after (first_of_month (year + 400 * (left / 146097)) month) (left - 146097 * (left / 146097)) ≡ days_after (first_of_month year month) left
from-january year month left m few early =
    (λ i. days_after (first_of_month (year + 400 * (left / 146097)) (m i)) (left - 146097 * (left / 146097)))
    ∙ centuries-less (left / 146097) year left (omega arith) (omega arith)
    ∙ (λ i. days_after (first_of_month year (sym m i)) left)

pub returns : goal.returns
returns c =
    let r = c.args.self in
    from-january r.year r.month r.left c.if-self-ne1.false c.if-many-gt100000.false c.if-self-gt4000000000.false
