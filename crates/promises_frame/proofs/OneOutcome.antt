-- Each record says what its outcome equals: that outcome is allowed, and any two that are equal it.
use mathlib.Core.Path.{◌≡◌, refl, sym, ◌∙◌}
use mathlib.Core.List.{List}
use Prim.Native.Nat.{ℕ}
use Rattle.promises_frame.specs.OneOutcome.{OneOutcome}
use Rattle.std.specs.Prelude.{Result}
use Rattle.frame.specs.declared.faults.Fault.{Fault}

pub pair : (a b : (Result ℕ Fault) × List ℕ) → a.0 ≡ b.0 → a.1 ≡ b.1 → a ≡ b
pair a b e f = λ i. (e i, f i)

pub one-outcome : OneOutcome
one-outcome =
    record {
      read-poll = λ poll. record { same = λ a b p q. p.answers ∙ sym q.answers; some = _; allowed = record { answers = refl } };
      write-poll = λ address raise reset out.
          record { same = λ a b p q. pair a b (p.answers ∙ sym q.answers) (p.leaves ∙ sym q.leaves); some = _; allowed = record { answers = refl; leaves = refl } };
      read-reply = λ settings address count reply.
          record { same = λ a b p q. p.answers ∙ sym q.answers; some = _; allowed = record { answers = refl } };
      write-reply = λ settings address r out.
          record { same = λ a b p q. pair a b (p.answers ∙ sym q.answers) (p.leaves ∙ sym q.leaves); some = _; allowed = record { answers = refl; leaves = refl } };
    }
