-- `picture::axis::axis_of` meets its contract, field by field. Assumes nothing.
use mathlib.Core.Path.{◌≡◌, ap, ◌∙◌}
use mathlib.Core.List.{[], ◌∷◌}
use Prim.Native.Nat.{ℕ, ◌+◌, ◌-◌, ◌*◌, ◌<◌, ◌≤◌}
use native.Mathlib.Omega.{arith}
use Prim.Native.Nat.{◌/◌, min}
use native.Mathlib.Nat.{div-lt_iff_lt-mul}
use Rattle.std.specs.Prelude.{Option}
use Rattle.calendar.specs.declared.counting.Day.{Day}
use Rattle.picture.specs.declared.axis.Axis.{Axis}
use Rattle.picture.specs.Axis.{axis_of, days_shown}
use Rattle.picture.proofs.axis.axis_of.Goals as goal

-- no more ticks than days
few-ticks : (d step : ℕ) → 0 < step → d ≤ 2982617 → d / step < 2982618
few-ticks d step h k = (div-lt_iff_lt-mul h).1 (omega arith)

axis-is : (begin : Option Day) (first last days wide : ℕ) → days ≡ days_shown first last → wide ≡ min (1440 * days) 4294967295 → ◌≡◌ {A = Axis} (record { begin = begin; from = first / 1440 * 1440; span = wide; days = days; step = (days + 4) / 5; ticks = first / 1440 ∷ (first / 1440 + (days + 4) / 5) ∷ (first / 1440 + 2 * ((days + 4) / 5)) ∷ (first / 1440 + 3 * ((days + 4) / 5)) ∷ (first / 1440 + 4 * ((days + 4) / 5)) ∷ []; shown = (days - 1) / ((days + 4) / 5) + 1 }) (axis_of begin first last)
unfolding axis_of
axis-is begin first last days wide d w =
    let m : wide ≡ min (1440 * days_shown first last) 4294967295 = w ∙ ap (λ (n : ℕ). min (1440 * n) 4294967295) d in
    λ i.
    record {
      begin = begin;
      from = first / 1440 * 1440;
      span = m i;
      days = d i;
      step = (d i + 4) / 5;
      ticks = first / 1440 ∷ (first / 1440 + (d i + 4) / 5) ∷ (first / 1440 + 2 * ((d i + 4) / 5)) ∷ (first / 1440 + 3 * ((d i + 4) / 5)) ∷ (first / 1440 + 4 * ((d i + 4) / 5)) ∷ [];
      shown = (d i - 1) / ((d i + 4) / 5) + 1;
    }

pub overflow_add-result-5 : goal.overflow_add-result-5
overflow_add-result-5 c = omega (arith, few-ticks (c.days_in-days.result - 1) ((c.days_in-days.result + 4) / 5) (omega arith) (omega (arith, c.days_in-days.ensures.upper_bound)))

pub returns : goal.returns
returns c =
    let days = c.days_in-days in
    let e = c.saturating_mul.ensures in
    let wide : c.saturating_mul.result ≡ min (1440 * days.result) 4294967295 = omega arith in
    axis-is c.args.begin c.args.first c.args.last days.result c.saturating_mul.result days.ensures.value wide
