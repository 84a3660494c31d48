-- Each record says what its outcome equals: that outcome is allowed, and any two that are equal it. Assumes nothing.
use mathlib.Core.Path.{◌≡◌, refl, sym, ◌∙◌}
use mathlib.Core.List.{List}
use Prim.Native.Nat.{ℕ}
use Rattle.summary.specs.declared.Kept.{Kept}
use Rattle.promises_card.specs.Summary.OneOutcome.{SummaryOutcome}

pair : (a b : Kept × List ℕ) → a.0 ≡ b.0 → a.1 ≡ b.1 → a ≡ b
pair a b e f = λ i. (e i, f i)

pub summary-outcome : SummaryOutcome
summary-outcome =
    record {
      afresh = λ sheet. record { same = λ a b p q. p.answers ∙ sym q.answers; some = _; allowed = record { answers = refl } };
      save = λ sheet s e allowance.
          record {
            same = λ a b p q. pair a b (p.answers ∙ sym q.answers) (p.leaves ∙ sym q.leaves);
            some = _;
            allowed = record { answers = refl; leaves = refl };
          };
    }
