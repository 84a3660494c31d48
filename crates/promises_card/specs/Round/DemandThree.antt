-- Demand 3 over rounds: each round is the saves that it tried, in order, so list, full and stays hold of them.
use Rattle.std.specs.Prelude.{◌≡◌, ◌↔◌, true, List, ◌∷◌, ◌++◌, map, ℕ, ◌+◌, ◌<◌, ◌≤◌, take}
use Rattle.sheet.specs.Record.{passes}
use Rattle.sheet.specs.Slots.{size_allowed, list_of}
use Rattle.round.specs.declared.Round.{Round}
use Rattle.round.specs.declared.Rounded.{Rounded}
use Rattle.round.specs.Replies.{entries_of}
use Rattle.promises_card.specs.Sheet.History.{Save, History, SheetAfter, blank_sheet, closed_in, broken_in}
use Rattle.promises_card.specs.Sheet.ListAndFull.{Begins}
use Rattle.promises_card.specs.Round.Tries.{try_save, stores_in_tries}
use Rattle.promises_card.specs.Round.OneByOne.{BySaves}
use Rattle.promises_card.specs.Round.Histories.{Called, Rounds, Flattened}

-- The reply that a round stopped at passes the checks, stores were left, and at that moment closed records and broken saves number the slots. Here h is
-- what was saved before the round, and `before` what the round tried before that reply.
pub record StoppedFull (n : ℕ) (h : List Save) (allowance : ℕ) (saves : List Save) : Type 0 where
  pub last : Save
  pub before : List Save
  pub latest : saves ≡ last ∷ before
  pub good : passes last.entry ≡ true
  pub stores_left : stores_in_tries (map try_save before) < allowance
  pub all_slots : closed_in (before ++ h) + broken_in (before ++ h) ≡ n

pub record OverRounds : Type 0 where
  -- Every history of rounds comes to saves, and those are a history of the sheet.
  pub flattens : (from : List ℕ) (cs : List Called) (t : List ℕ) → Rounds from cs t → (h : List Save) × Flattened from cs h t
  pub history : (from : List ℕ) (cs : List Called) (h : List Save) (t : List ℕ) → Flattened from cs h t → History from h t
  -- So all that demand 3 says of a blank sheet after a history holds after rounds.
  pub after_rounds : (n : ℕ) → n ≤ 2048 → (cs : List Called) (h : List Save) (s : List ℕ) → Flattened (blank_sheet n) cs h s → SheetAfter n h s
  -- The list after a round is the list before it and the records of its closed replies, in order.
  pub list : (s : List ℕ) → size_allowed s ≡ true → (r : Round) (allowance : ℕ) (answer : Rounded) (t : List ℕ) → BySaves s r allowance answer t
      → list_of t ≡ list_of s ++ take answer.closed (entries_of r)
  -- A round says 13 exactly where its next reply is good, stores are left and no slot is.
  pub full : (n : ℕ) → n ≤ 2048 → (cs : List Called) (h : List Save) (s : List ℕ) → Flattened (blank_sheet n) cs h s
      → (r : Round) (allowance : ℕ) (answer : Rounded) (t : List ℕ) (one : BySaves s r allowance answer t)
      → (answer.number ≡ 13) ↔ StoppedFull n h allowance one.saves
  -- A list once read is the beginning of every later list.
  pub stays : (n : ℕ) → n ≤ 2048 → (cs : List Called) (s : List ℕ) → Rounds (blank_sheet n) cs s → (later : List Called) (t : List ℕ) → Rounds s later t
      → Begins (list_of s) (list_of t)
