-- One outcome, of the calls for a round: what a contract's record allows for given inputs, answer and sheet, is one thing and no other.
use Rattle.std.specs.Prelude.{List, ℕ}
use Rattle.summary.specs.declared.Summary.{Summary}
use Rattle.round.specs.declared.Round.{Round}
use Rattle.round.specs.declared.Rounded.{Rounded}
use Rattle.round.specs.declared.RoundedPage.{RoundedPage}
use Rattle.round.specs.Calls.{SavesRound, SavesRoundWith}
use Rattle.promises_frame.specs.One.{One}

pub record RoundOutcome : Type 0 where
  pub plain : (s : List ℕ) (r : Round) (allowance : ℕ) → One (Rounded × List ℕ) (λ o. SavesRound s r allowance o.0 o.1)
  pub with_summary : (s : List ℕ) (page : Summary) (r : Round) (allowance : ℕ)
      → One (RoundedPage × List ℕ) (λ o. SavesRoundWith s page r allowance o.0 o.1)
