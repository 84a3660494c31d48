-- Each record says what its outcome equals: that outcome is allowed, and any two that are equal it. Assumes nothing.
use mathlib.Core.Path.{◌≡◌, refl, sym, ◌∙◌}
use mathlib.Core.List.{List}
use Prim.Native.Nat.{ℕ}
use Rattle.promises_card.specs.Sheet.OneOutcome.{SheetOutcome}
use Rattle.std.specs.Prelude.{Result}
use Rattle.frame.specs.declared.faults.Fault.{Fault}

pair : (a b : (Result ℕ Fault) × List ℕ) → a.0 ≡ b.0 → a.1 ≡ b.1 → a ≡ b
pair a b e f = λ i. (e i, f i)

pub sheet-outcome : SheetOutcome
sheet-outcome =
    record {
      save = λ s e allowance.
          record {
            same = λ a b p q. pair a b (p.answers ∙ sym q.answers) (p.leaves ∙ sym q.leaves);
            some = _;
            allowed = record { answers = refl; leaves = refl };
          };
      look = λ s slot. record { same = λ a b p q. p.answers ∙ sym q.answers; some = _; allowed = record { answers = refl } };
      tell = λ s e. record { same = λ a b p q. p.answers ∙ sym q.answers; some = _; allowed = record { answers = refl } };
    }
