-- What stops a round: 23 before all others, an empty round, no stores; then each save's own order.
use Rattle.std.specs.Prelude.{◌≡◌, ◌≢◌, List, ◌∷◌, ℕ, ◌<◌, ◌≤◌}
use Rattle.summary.specs.declared.Summary.{Summary}
use Rattle.round.specs.declared.Round.{Round}
use Rattle.round.specs.declared.Rounded.{Rounded}
use Rattle.round.specs.declared.RoundedPage.{RoundedPage}
use Rattle.round.specs.Calls.{most_replies, SavesRound, SavesRoundWith}
use Rattle.promises_frame.specs.FirstFault.{FirstThatApplies}
use Rattle.promises_card.specs.Sheet.History.{Save, History}
use Rattle.promises_card.specs.Sheet.FirstFault.{save_table, save_order}
use Rattle.promises_card.specs.Summary.Chain.{Step, Chain}
use Rattle.promises_card.specs.Summary.FirstFault.{keep_table, keep_order}
use Rattle.promises_card.specs.Round.OneByOne.{BySaves, BySteps}

abbrev pub rounded : ℕ → ℕ → ℕ → Rounded
rounded closed stores number = record { closed = closed; stores = stores; number = number }

abbrev pub rounded_page : Summary → ℕ → ℕ → ℕ → RoundedPage
rounded_page page closed stores number = record { summary = page; closed = closed; stores = stores; number = number }

-- The reply that a round stopped at was refused by the first number that applies to it, on the sheet that the replies before it left.
pub record StoppedBy (s : List ℕ) (saves : List Save) (number : ℕ) : Type 0 where
  pub last : Save
  pub before : List Save
  pub latest : saves ≡ last ∷ before
  pub there : List ℕ
  pub left : History s before there
  pub first : FirstThatApplies (save_table there last.entry) save_order number

pub record StoppedByWith (s : List ℕ) (page : Summary) (steps : List Step) (number : ℕ) : Type 0 where
  pub last : Step
  pub before : List Step
  pub latest : steps ≡ last ∷ before
  pub there : List ℕ
  pub there_page : Summary
  pub left : Chain s page before there there_page
  pub first : FirstThatApplies (keep_table there there_page last.entry) keep_order number

pub record Stops : Type 0 where
  -- More than 30 replies: 23, whatever sheet, summary and allowance, and no byte is changed.
  pub too_many : (s : List ℕ) (r : Round) (allowance : ℕ) (answer : Rounded) (t : List ℕ) → SavesRound s r allowance answer t
      → most_replies < r.count → (answer ≡ rounded 0 0 23) × (t ≡ s)
  pub too_many_with : (s : List ℕ) (page : Summary) (r : Round) (allowance : ℕ) (answer : RoundedPage) (t : List ℕ)
      → SavesRoundWith s page r allowance answer t → most_replies < r.count → (answer ≡ rounded_page page 0 0 23) × (t ≡ s)
  -- An empty round changes nothing.
  pub empty : (s : List ℕ) (r : Round) (allowance : ℕ) (answer : Rounded) (t : List ℕ) → SavesRound s r allowance answer t
      → r.count ≡ 0 → (answer ≡ rounded 0 0 0) × (t ≡ s)
  pub empty_with : (s : List ℕ) (page : Summary) (r : Round) (allowance : ℕ) (answer : RoundedPage) (t : List ℕ)
      → SavesRoundWith s page r allowance answer t → r.count ≡ 0 → (answer ≡ rounded_page page 0 0 0) × (t ≡ s)
  -- With no stores nothing is tried, whatever would be refused.
  pub no_stores : (s : List ℕ) (r : Round) (answer : Rounded) (t : List ℕ) → SavesRound s r 0 answer t
      → r.count ≤ most_replies → (answer ≡ rounded 0 0 0) × (t ≡ s)
  pub no_stores_with : (s : List ℕ) (page : Summary) (r : Round) (answer : RoundedPage) (t : List ℕ)
      → SavesRoundWith s page r 0 answer t → r.count ≤ most_replies → (answer ≡ rounded_page page 0 0 0) × (t ≡ s)
  -- A round that used its stores up says no number.
  pub used_up : (s : List ℕ) (r : Round) (allowance : ℕ) (answer : Rounded) (t : List ℕ) → BySaves s r allowance answer t
      → answer.stores ≡ allowance → answer.number ≡ 0
  pub used_up_with : (s : List ℕ) (page : Summary) (r : Round) (allowance : ℕ) (answer : RoundedPage) (t : List ℕ)
      → BySteps s page r allowance answer t → answer.stores ≡ allowance → answer.number ≡ 0
  -- A number is that of the reply that it stopped at, the first that applies to it.
  pub first-fault : (s : List ℕ) (r : Round) (allowance : ℕ) (answer : Rounded) (t : List ℕ) (one : BySaves s r allowance answer t)
      → answer.number ≢ 0 → StoppedBy s one.saves answer.number
  pub first_fault_with : (s : List ℕ) (page : Summary) (r : Round) (allowance : ℕ) (answer : RoundedPage) (t : List ℕ)
      (one : BySteps s page r allowance answer t) → answer.number ≢ 0 → StoppedByWith s page one.steps answer.number
