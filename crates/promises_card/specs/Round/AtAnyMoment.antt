-- At any moment, over rounds: begun from its sheet, a summary that rounds keep equals the one worked out from the sheet's list, after every round.
use Rattle.std.specs.Prelude.{◌≡◌, ◌≢◌, true, List, ℕ}
use Rattle.sheet.specs.Slots.{size_allowed, list_of}
use Rattle.summary.specs.declared.Summary.{Summary}
use Rattle.summary.specs.Worked.{summary_of}
use Rattle.round.specs.Calls.{SavesRoundWith}
use Rattle.promises_card.specs.Summary.Chain.{Step, Chain}
use Rattle.promises_card.specs.Round.Histories.{CalledWith, RoundsWith}

pub record RoundsAtAnyMoment : Type 0 where
  -- Rounds with a summary come to saves with a summary, one after another, of which all that request 03 promises holds.
  pub chain : (from : List ℕ) (begin : Summary) (cs : List CalledWith) (t : List ℕ) (page : Summary) → RoundsWith from begin cs t page
      → (h : List Step) × Chain from begin h t page
  -- Here the sheet `from` is any of an allowed size, foreign ones too.
  pub equals : (from : List ℕ) → size_allowed from ≡ true → (cs : List CalledWith) (t : List ℕ) (page : Summary)
      → RoundsWith from (summary_of (list_of from)) cs t page → page ≡ summary_of (list_of t)
  -- So no round after that is refused by 37 or 24.
  pub never : (from : List ℕ) → size_allowed from ≡ true → (cs : List CalledWith) (s : List ℕ) (page : Summary)
      → RoundsWith from (summary_of (list_of from)) cs s page → (c : CalledWith) (t : List ℕ)
      → SavesRoundWith s page c.polled c.allowance c.answer t → (c.answer.number ≢ 37) × (c.answer.number ≢ 24)
