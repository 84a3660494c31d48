-- Histories of rounds, and the saves that they come to.
use Rattle.std.specs.Prelude.{◌≡◌, List, [], ◌∷◌, ◌++◌, ℕ, ◌<◌}
use Rattle.summary.specs.declared.Summary.{Summary}
use Rattle.round.specs.declared.Round.{Round}
use Rattle.round.specs.declared.Rounded.{Rounded}
use Rattle.round.specs.declared.RoundedPage.{RoundedPage}
use Rattle.round.specs.Replies.{entries_of}
use Rattle.round.specs.Calls.{most_replies, SavesRound, SavesRoundWith}
use Rattle.promises_card.specs.Sheet.History.{Save}
use Rattle.promises_card.specs.Round.Tries.{Dated}
use Rattle.promises_card.specs.Round.OneByOne.{BySaves}

-- A round: its replies, how many stores it may make, and what it was answered.
pub record Called : Type 0 where
  pub polled : Round
  pub dated : Dated (entries_of polled)
  pub allowance : ℕ
  pub answer : Rounded

-- Rounds from one sheet to another, the latest first, each as the contract of the call says.
pub data Rounds (from : List ℕ) : List Called → List ℕ → Type 0 where
  none_called : Rounds from [] from
  called : {cs : List Called} {s t : List ℕ} (c : Called) → Rounds from cs s → SavesRound s c.polled c.allowance c.answer t
      → Rounds from (c ∷ cs) t

-- Rounds flattened to the saves that they tried, in order, the latest first. One of more than 30 replies tried none.
pub data Flattened (from : List ℕ) : List Called → List Save → List ℕ → Type 0 where
  nothing : Flattened from [] [] from
  tried : {cs : List Called} {h : List Save} {s t : List ℕ} (c : Called) → Flattened from cs h s
      → (one : BySaves s c.polled c.allowance c.answer t) → Flattened from (c ∷ cs) (one.saves ++ h) t
  not_tried : {cs : List Called} {h : List Save} {s t : List ℕ} (c : Called) → Flattened from cs h s → most_replies < c.polled.count → t ≡ s
      → Flattened from (c ∷ cs) h t

-- The same with a summary: each round is handed the one that the round before it left.
pub record CalledWith : Type 0 where
  pub polled : Round
  pub dated : Dated (entries_of polled)
  pub allowance : ℕ
  pub answer : RoundedPage

pub data RoundsWith (from : List ℕ) (begin : Summary) : List CalledWith → List ℕ → Summary → Type 0 where
  none_called_with : RoundsWith from begin [] from begin
  called_with : {cs : List CalledWith} {s t : List ℕ} {page : Summary} (c : CalledWith) → RoundsWith from begin cs s page
      → SavesRoundWith s page c.polled c.allowance c.answer t → RoundsWith from begin (c ∷ cs) t c.answer.summary
