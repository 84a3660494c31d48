-- Each record says what its outcome equals: that outcome is allowed, and any two that are equal it. Assumes nothing.
use mathlib.Core.Path.{◌≡◌, refl, sym, ◌∙◌}
use mathlib.Core.List.{List}
use Prim.Native.Nat.{ℕ}
use Rattle.promises_card.specs.Round.OneOutcome.{RoundOutcome}

pair : {A : Type 0} (a b : A × List ℕ) → a.0 ≡ b.0 → a.1 ≡ b.1 → a ≡ b
pair a b e f = λ i. (e i, f i)

pub round-outcome : RoundOutcome
round-outcome =
    record {
      plain = λ s r allowance.
          record {
            same = λ a b p q. pair a b (p.answers ∙ sym q.answers) (p.leaves ∙ sym q.leaves);
            some = _;
            allowed = record { answers = refl; leaves = refl };
          };
      with_summary = λ s page r allowance.
          record {
            same = λ a b p q. pair a b (p.answers ∙ sym q.answers) (p.leaves ∙ sym q.leaves);
            some = _;
            allowed = record { answers = refl; leaves = refl };
          };
    }
