-- Each record says what its outcome equals: that outcome is allowed, and any two that are equal it.
use mathlib.Core.Path.{◌≡◌, refl, sym, ◌∙◌}
use mathlib.Core.List.{List}
use Prim.Native.Nat.{ℕ}
use Rattle.enraf.specs.declared.Done.{Done}
use Rattle.promises_enraf.specs.OneOutcome.{ItemOneOutcome}

pair : (a b : Done × List ℕ) → a.0 ≡ b.0 → a.1 ≡ b.1 → a ≡ b
pair a b e f = λ i. (e i, f i)

pub item-one-outcome : ItemOneOutcome
item-one-outcome =
    record {
      read = λ s. record { same = λ a b p q. p.answers ∙ sym q.answers; some = _; allowed = record { answers = refl } };
      write = λ i out.
          record { same = λ a b p q. pair a b (p.answers ∙ sym q.answers) (p.leaves ∙ sym q.leaves); some = _; allowed = record { answers = refl; leaves = refl } };
    }
