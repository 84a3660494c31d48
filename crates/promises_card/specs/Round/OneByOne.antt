-- One by one: a round leaves the sheet, the store count and the answers exactly as saving its replies one by one would.
use Rattle.std.specs.Prelude.{◌≡◌, List, map, ℕ, ◌<◌, ◌≤◌, length}
use Rattle.sheet.specs.Record.{entry_of}
use Rattle.sheet.specs.Save.{save_fault}
use Rattle.summary.specs.declared.Summary.{Summary}
use Rattle.round.specs.declared.Polled.{Polled}
use Rattle.round.specs.declared.Round.{Round}
use Rattle.round.specs.declared.Rounded.{Rounded}
use Rattle.round.specs.declared.RoundedPage.{RoundedPage}
use Rattle.round.specs.Replies.{entry_in, entries_of}
use Rattle.round.specs.Calls.{most_replies, SavesRound, SavesRoundWith}
use Rattle.promises_card.specs.Sheet.History.{Save, History}
use Rattle.promises_card.specs.Summary.Chain.{Step, Chain}
use Rattle.promises_card.specs.Round.Tries.{try_save, try_step, WentSo, Dated}

-- The saves of a round, the latest first: a history of the sheet, by the contract of the save.
pub record BySaves (s : List ℕ) (r : Round) (allowance : ℕ) (answer : Rounded) (t : List ℕ) : Type 0 where
  pub saves : List Save
  pub history : History s saves t
  pub went : WentSo allowance (entries_of r) (map try_save saves) answer.closed answer.stores answer.number

-- The saves of a round with a summary: each is handed the summary that the one before it left.
pub record BySteps (s : List ℕ) (page : Summary) (r : Round) (allowance : ℕ) (answer : RoundedPage) (t : List ℕ) : Type 0 where
  pub steps : List Step
  pub chain : Chain s page steps t answer.summary
  pub went : WentSo allowance (entries_of r) (map try_step steps) answer.closed answer.stores answer.number

pub record OneByOne : Type 0 where
  pub plain : (s : List ℕ) (r : Round) (allowance : ℕ) (answer : Rounded) (t : List ℕ) → SavesRound s r allowance answer t
      → r.count ≤ most_replies → Dated (entries_of r) → BySaves s r allowance answer t
  pub with_summary : (s : List ℕ) (page : Summary) (r : Round) (allowance : ℕ) (answer : RoundedPage) (t : List ℕ)
      → SavesRoundWith s page r allowance answer t → r.count ≤ most_replies → Dated (entries_of r) → BySteps s page r allowance answer t
  -- A reply that says more than 8 bytes is refused as any reply of so many bytes.
  pub more_than_eight : (s : List ℕ) (p : Polled) (lent : List ℕ) → length p.reply ≡ 8 → 8 < p.bytes → length lent ≡ p.bytes
      → save_fault s (entry_in p) ≡ save_fault s (entry_of p.settings p.minute p.address p.count lent)
