-- Days counted on by years. A year is its twelve months; the days of 400 years do not change when the first of them is moved, since the years come again after
-- 400, and from year 0 they are counted. Assumes nothing.
use mathlib.Core.Path.{◌≡◌, refl, sym, ap, ◌∙◌}
use Prim.Native.Nat.{ℕ, zero, suc, ◌+◌, ◌-◌, ◌*◌, ◌%◌, ◌<◌, ◌≤◌}
use native.Mathlib.Omega.{arith}
use borrow.Author.Tests.{lt-ltb}
use lib.Dec.{eqb}
use Rattle.frame.specs.Pick.{pick}
use Rattle.calendar.specs.declared.counting.Day.{Day}
use Rattle.calendar.specs.Days.{february_days, days_in, year_days, month_after, year_after, first_of_month, days_after}
use Rattle.calendar.proofs.Counted.{through, days-after}

-- a month more
month-more : (y m n : ℕ) → days_after (first_of_month y 1) n ≡ first_of_month y m → days_after (first_of_month y 1) (days_in y m + n) ≡ first_of_month (year_after y m) (month_after m)
month-more y m n e =
    days-after (first_of_month y 1) (days_in y m) n ∙ ap (λ (d : Day). days_after d (days_in y m)) e ∙ through y m

-- the first of January, after no day
begun : (y : ℕ) → days_after (first_of_month y 1) 0 ≡ first_of_month y 1
unfolding days_after
begun y = refl

year-is : (y : ℕ) → year_days y ≡ 337 + february_days y
unfolding year_days
year-is y = refl

pub year-some : (y : ℕ) → 0 < year_days y
year-some y = omega (arith, year-is y)

-- the twelve months of a year
pub year-over : (y : ℕ) → days_after (first_of_month y 1) (year_days y) ≡ first_of_month (year_after y 12) 1
year-over y =
    let f = february_days y in
    let jan = month-more y 1 0 (begun y) in
    let feb = month-more y 2 _ jan in
    let mar = month-more y 3 _ feb in
    let apr = month-more y 4 _ mar in
    let may = month-more y 5 _ apr in
    let jun = month-more y 6 _ may in
    let jul = month-more y 7 _ jun in
    let aug = month-more y 8 _ jul in
    let sep = month-more y 9 _ aug in
    let oct = month-more y 10 _ sep in
    let nov = month-more y 11 _ oct in
    let dec = month-more y 12 _ nov in
    let all : year_days y ≡ 31 + (30 + (31 + (30 + (31 + (31 + (30 + (31 + (30 + (31 + (f + (31 + 0))))))))))) = omega (arith, year-is y) in
    ap (days_after (first_of_month y 1)) all ∙ dec

pub year-less : (y left : ℕ) → year_days y ≤ left → days_after (first_of_month (year_after y 12) 1) (left - year_days y) ≡ days_after (first_of_month y 1) left
year-less y left h =
    let whole : left - year_days y + year_days y ≡ left = omega arith in
    ap (λ (d : Day). days_after d (left - year_days y)) (sym (year-over y)) ∙ sym (days-after (first_of_month y 1) (left - year_days y) (year_days y))
    ∙ ap (days_after (first_of_month y 1)) whole

-- the days of some years
span_of : ℕ → ℕ → ℕ
span_of y zero = 0
span_of y (suc k) = year_days (y + k) + span_of y k

last-year : (y : ℕ) → y < 0xffffffff → year_after y 12 ≡ y + 1
last-year y h = simp (lt-ltb y 0xffffffff h)

years-over : (y k : ℕ) → y + k ≤ 0xffffffff → days_after (first_of_month y 1) (span_of y k) ≡ first_of_month (y + k) 1
unfolding span_of
years-over y zero h =
    let same : y ≡ y + 0 = omega arith in
    begun y ∙ ap (λ (n : ℕ). first_of_month n 1) same
years-over y (suc k) h =
    let next : y + k + 1 ≡ y + suc k = omega arith in
    days-after (first_of_month y 1) (year_days (y + k)) (span_of y k)
    ∙ ap (λ (d : Day). days_after d (year_days (y + k))) (years-over y k (omega arith))
    ∙ year-over (y + k) ∙ ap (λ (n : ℕ). first_of_month n 1) (last-year (y + k) (omega arith) ∙ next)

-- the years come again after 400
again : (y : ℕ) → year_days (y + 400) ≡ year_days y
unfolding year_days
again y =
    let four : (y + 400) % 4 ≡ y % 4 = omega arith in
    let hundred : (y + 400) % 100 ≡ y % 100 = omega arith in
    let both : (y + 400) % 400 ≡ y % 400 = omega arith in
    λ i. 337 + pick (eqb (four i) 0) (pick (eqb (hundred i) 0) (pick (eqb (both i) 0) 29 28) 29) 28

-- one year off the front, one more at the end
moved : (y k : ℕ) → span_of (suc y) k + year_days y ≡ year_days (y + k) + span_of y k
unfolding span_of
moved y zero =
    let same : y ≡ y + 0 = omega arith in
    let days : year_days y ≡ year_days (y + 0) = ap year_days same in
    omega arith
moved y (suc k) =
    let same : suc y + k ≡ y + suc k = omega arith in
    let days : year_days (suc y + k) ≡ year_days (y + suc k) = ap year_days same in
    omega (arith, moved y k, days)

counted : span_of 0 400 ≡ 146097
unfolding span_of year_days
counted = refl

four-hundred : (y : ℕ) → span_of y 400 ≡ 146097
four-hundred zero = counted
four-hundred (suc y) = omega (arith, moved y 400, again y, four-hundred y)

-- so many times 400 years
pub centuries-over : (k y : ℕ) → y + 400 * k ≤ 0xffffffff → days_after (first_of_month y 1) (146097 * k) ≡ first_of_month (y + 400 * k) 1
centuries-over zero y h =
    let same : y ≡ y + 400 * 0 = omega arith in
    let none : 146097 * 0 ≡ 0 = omega arith in
    ap (days_after (first_of_month y 1)) none ∙ begun y ∙ ap (λ (n : ℕ). first_of_month n 1) same
centuries-over (suc k) y h =
    let days : 146097 * suc k ≡ span_of (y + 400 * k) 400 + 146097 * k = omega (arith, four-hundred (y + 400 * k)) in
    let years : y + 400 * k + 400 ≡ y + 400 * suc k = omega arith in
    ap (days_after (first_of_month y 1)) days ∙ days-after (first_of_month y 1) (span_of (y + 400 * k) 400) (146097 * k)
    ∙ ap (λ (d : Day). days_after d (span_of (y + 400 * k) 400)) (centuries-over k y (omega arith))
    ∙ years-over (y + 400 * k) 400 (omega arith)
    ∙ ap (λ (n : ℕ). first_of_month n 1) years

pub centuries-less : (k y left : ℕ) → y + 400 * k ≤ 0xffffffff → 146097 * k ≤ left → days_after (first_of_month (y + 400 * k) 1) (left - 146097 * k) ≡ days_after (first_of_month y 1) left
centuries-less k y left h few =
    let whole : left - 146097 * k + 146097 * k ≡ left = omega arith in
    ap (λ (d : Day). days_after d (left - 146097 * k)) (sym (centuries-over k y h)) ∙ sym (days-after (first_of_month y 1) (left - 146097 * k) (146097 * k))
    ∙ ap (days_after (first_of_month y 1)) whole
