-- Days counted on within a month and into the next. A month has a day at least; its days follow each other, and after the last comes the first of the next.
-- Assumes nothing.
use mathlib.Core.Path.{◌≡◌, refl, sym, ap, ◌∙◌}
use mathlib.Core.Bool.{Bool, true, false}
use Prim.Native.Nat.{ℕ, zero, suc, ◌+◌, ◌-◌, ◌%◌, ◌<◌, ◌≤◌}
use native.Mathlib.Omega.{arith}
use borrow.Author.Tests.{lt-ltb, le-ltb}
use lib.Dec.{eqb}
use Rattle.frame.specs.Pick.{pick}
use Rattle.calendar.specs.declared.counting.Day.{Day}
use Rattle.calendar.specs.Days.{days_in, month_after, year_after, first_of_month, day_after, days_after, days_from}

abbrev pub FewDays : ℕ → Type 0
FewDays n = (0 < n) × (n ≤ 31)

-- a choice between two of few days has few
either : (t : Bool) (a b : ℕ) → FewDays a → FewDays b → FewDays (pick t a b)
either true a b f g = f
either false a b f g = g

pub few-days : (y m : ℕ) → FewDays (days_in y m)
few-days y m =
    let thirty : FewDays 30 = (omega arith, omega arith) in
    let more : FewDays 31 = (omega arith, omega arith) in
    let leap : FewDays 29 = (omega arith, omega arith) in
    let plain : FewDays 28 = (omega arith, omega arith) in
    let hundreds = either (eqb (y % 400) 0) 29 28 leap plain in
    let fourths = either (eqb (y % 100) 0) _ 29 hundreds leap in
    let february = either (eqb (y % 4) 0) _ 28 fourths plain in
    let rest = either (eqb m 11) 30 31 thirty more in
    either (eqb m 2) _ _ february (either (eqb m 4) 30 _ thirty (either (eqb m 6) 30 _ thirty (either (eqb m 9) 30 _ thirty rest)))

module _ (y m : ℕ) where
  abbrev pub day_of : ℕ → Day
  day_of n = record { year = y; month = m; day = n }

  -- the day after one that is not the last, and after the last
  day-more : (n : ℕ) → n < days_in y m → day_after (day_of n) ≡ day_of (n + 1)
  unfolding day_after
  day-more n h = simp (lt-ltb _ _ h)

  month-over : day_after (day_of (days_in y m)) ≡ first_of_month (year_after y m) (month_after m)
  unfolding day_after
  month-over = simp (le-ltb (days_in y m) (days_in y m) (omega arith))

  pub within : (k : ℕ) → k < days_in y m → days_after (first_of_month y m) k ≡ day_of (k + 1)
  unfolding days_after
  within zero h = refl
  within (suc k) h =
      let same : suc k + 1 ≡ k + 1 + 1 = omega arith in
      ap day_after (within k (omega arith)) ∙ day-more (k + 1) (omega arith) ∙ sym (ap day_of same)

  -- counted through a month
  last-day : (k : ℕ) → suc k ≡ days_in y m → days_after (first_of_month y m) (suc k) ≡ first_of_month (year_after y m) (month_after m)
  unfolding days_after
  last-day k e =
      let at_last : k + 1 ≡ days_in y m = omega arith in
      ap day_after (within k (omega arith) ∙ ap day_of at_last) ∙ month-over

  pub through : days_after (first_of_month y m) (days_in y m) ≡ first_of_month (year_after y m) (month_after m)
  through =
      let f = few-days y m in
      let e : suc (days_in y m - 1) ≡ days_in y m = omega arith in
      ap (days_after (first_of_month y m)) (sym e) ∙ last-day (days_in y m - 1) e

-- some days after some days
pub days-after : (d : Day) (a b : ℕ) → days_after d (a + b) ≡ days_after (days_after d b) a
unfolding days_after
days-after d zero b =
    let none : 0 + b ≡ b = omega arith in
    ap (days_after d) none
days-after d (suc a) b =
    let more : suc a + b ≡ suc (a + b) = omega arith in
    ap (days_after d) more ∙ ap day_after (days-after d a b)

-- a month taken off
pub month-less : (y m left : ℕ) → days_in y m ≤ left → days_after (first_of_month (year_after y m) (month_after m)) (left - days_in y m) ≡ days_after (first_of_month y m) left
month-less y m left h =
    let whole : left - days_in y m + days_in y m ≡ left = omega arith in
    ap (λ (d : Day). days_after d (left - days_in y m)) (sym (through y m)) ∙ sym (days-after (first_of_month y m) (left - days_in y m) (days_in y m))
    ∙ ap (days_after (first_of_month y m)) whole

-- Counted from the first of its month, a day that its month has is counted on from itself.
pub counted-from-itself : (d : Day) (n : ℕ) → 0 < d.day → d.day ≤ days_in d.year d.month → days_from d n ≡ days_after d n
counted-from-itself d n some fits =
    let there : d.day - 1 + 1 ≡ d.day = omega arith in
    days-after (first_of_month d.year d.month) n (d.day - 1)
    ∙ ap (λ (e : Day). days_after e n) (within d.year d.month (d.day - 1) (omega arith) ∙ ap (day_of d.year d.month) there)
