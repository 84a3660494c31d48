-- A year taken off, which has a day at least. Assumes nothing.
use mathlib.Core.Path.{◌≡◌, sym, ◌∙◌}
use Prim.Native.Nat.{ℕ, ◌-◌, ◌<◌, ◌≤◌}
use native.Mathlib.Omega.{arith}
use Rattle.calendar.specs.Days.{year_days, year_after, first_of_month, days_after}
use Rattle.calendar.proofs.Years.{year-some, year-less}
use Rattle.calendar.proofs.leaps.Rest.a_year_on.Goals as goal

a-year : (y m left rest year : ℕ) → m ≡ 1 → year_days y ≤ left → rest ≡ left - year_days y → year ≡ year_after y 12 → (rest < left) × (days_after (first_of_month year m) rest ≡ days_after (first_of_month y m) left)
a-year y m left rest year jan fits r ey = (
  omega (arith, year-some y),
  (λ i. days_after (first_of_month (ey i) (jan i)) (r i)) ∙ year-less y left fits ∙ (λ i. days_after (first_of_month y (sym jan i)) left),
)

pub returns : goal.returns
returns c =
    let self = c.args.self in
    let size = c.days_of.ensures in
    let left = c.in_ok-left.ensures in
    a-year self.year self.month self.left c.in_ok-left.left _ c.if-self-ne1.false (omega arith) (omega arith) c.year_after.ensures
