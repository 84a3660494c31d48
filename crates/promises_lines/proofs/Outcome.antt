-- One outcome: the contract is one equation.
use mathlib.Core.Path.{refl, sym, ◌∙◌}
use Rattle.lines.specs.Timing.{timing}
use Rattle.lines.specs.Calls.{lines_answer}
use Rattle.promises_lines.specs.Outcome.{LinesOutcome}

pub outcome : LinesOutcome
outcome =
    record {
      hear = λ s least most gap xs.
          record {
            same = λ a b p q. p.answers ∙ sym q.answers;
            some = lines_answer s (timing least most gap) xs;
            allowed = record { answers = refl };
          };
    }
