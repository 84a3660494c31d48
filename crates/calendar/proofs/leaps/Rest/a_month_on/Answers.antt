-- A month taken off, which has a day at least. Assumes nothing.
use mathlib.Core.Path.{◌≡◌, ◌∙◌}
use Prim.Native.Nat.{ℕ, ◌-◌, ◌<◌, ◌≤◌}
use native.Mathlib.Omega.{arith}
use Rattle.calendar.specs.Days.{days_in, month_after, year_after, first_of_month, days_after}
use Rattle.calendar.proofs.Counted.{few-days, month-less}
use Rattle.calendar.proofs.leaps.Rest.a_month_on.Goals as goal

a-month : (y m left rest year month : ℕ) → days_in y m ≤ left → rest ≡ left - days_in y m → year ≡ year_after y m → month ≡ month_after m → (rest < left) × (days_after (first_of_month year month) rest ≡ days_after (first_of_month y m) left)
a-month y m left rest year month fits r ey em =
    let few = few-days y m in
    (omega arith, (λ i. days_after (first_of_month (ey i) (em i)) (r i)) ∙ month-less y m left fits)

pub returns : goal.returns
returns c =
    let self = c.args.self in
    let size = c.days_in-size.ensures in
    let left = c.in_ok-left.ensures in
    a-month self.year self.month self.left c.in_ok-left.left _ _ (omega arith) (omega arith) c.year_after.ensures c.next_month.ensures
