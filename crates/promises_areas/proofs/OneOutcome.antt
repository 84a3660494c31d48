-- Each record says what its outcome equals: that outcome is allowed, and any two that are equal it.
use mathlib.Core.Path.{refl, sym, ◌∙◌}
use Rattle.promises_areas.specs.OneOutcome.{AreasOneOutcome}

pub areas-one-outcome : AreasOneOutcome
areas-one-outcome =
    record {
      check = λ s p. record { same = λ a b x y. x.answers ∙ sym y.answers; some = _; allowed = record { answers = refl } };
      plan = λ s. record { same = λ a b x y. x.answers ∙ sym y.answers; some = _; allowed = record { answers = refl } };
    }
