-- Calls of every kind in any order on one sheet: single saves, saves with a summary, rounds, and rounds with a summary.
use Rattle.std.specs.Prelude.{List, [], ◌∷◌, ◌++◌, ℕ, ◌+◌, ◌*◌, eqb, ltb, take}
use Rattle.frame.specs.Pick.{pick}
use Rattle.sheet.specs.Record.{Entry}
use Rattle.sheet.specs.Slots.{next}
use Rattle.sheet.specs.Stores.{Store, stores}
use Rattle.sheet.specs.Save.{saved_number, stores_made}
use Rattle.summary.specs.declared.Summary.{Summary}
use Rattle.summary.specs.declared.Made.{Made}
use Rattle.summary.specs.Calls.{keep_fault, MakesSummary}
use Rattle.round.specs.Replies.{entries_of}
use Rattle.round.specs.Saving.{none, kept}
use Rattle.round.specs.Calls.{SavesRound, SavesRoundWith}
use Rattle.promises_card.specs.Sheet.History.{Save, TakesSheet, is_closed}
use Rattle.promises_card.specs.Sheet.OneSave.{stores_of}
use Rattle.promises_card.specs.Summary.Chain.{Step, Goes}
use Rattle.promises_card.specs.Summary.Chain as chain
use Rattle.promises_card.specs.Round.Told.{answers_told}
use Rattle.promises_card.specs.Round.Histories.{Called, CalledWith}
use Rattle.promises_card.specs.Round.Cut.{round_stores}

-- A call that saves one reply or a round, alone or with the summary that it is handed, whatever that is.
pub data Call : Type 0 where
  one : Save → Call
  one_with : Summary → Step → Call
  round : Called → Call
  round_with : Summary → CalledWith → Call

-- It takes one sheet to another as its contract says.
abbrev pub Does : List ℕ → Call → List ℕ → Type 0
Does s (one x) t = TakesSheet s x t
Does s (one_with page x) t = Goes s page x t
Does s (round c) t = SavesRound s c.polled c.allowance c.answer t
Does s (round_with page c) t = SavesRoundWith s page c.polled c.allowance c.answer t

-- Calls from one sheet to another, the latest first. Each may be cut after any number of stores: that is its allowance.
pub data Calls (from : List ℕ) : List Call → List ℕ → Type 0 where
  none_called : Calls from [] from
  called : {cs : List Call} {s t : List ℕ} (c : Call) → Calls from cs s → Does s c t → Calls from (c ∷ cs) t

-- The stores that a call makes, in order, and how many it tells.
abbrev pub stores_by_call : List ℕ → Call → List Store
stores_by_call s (one x) = stores_of s x.entry x.allowance
stores_by_call s (one_with page x) = pick (eqb (keep_fault s page x.entry) 0) (take x.allowance (stores (32 * next s) x.entry)) []
stores_by_call s (round c) = round_stores s none c.polled c.allowance
stores_by_call s (round_with page c) = round_stores s (kept page) c.polled c.allowance

abbrev pub stores_told_by : Call → ℕ
stores_told_by (one x) = stores_made x.answer
stores_told_by (one_with page x) = x.answer.count
stores_told_by (round c) = c.answer.stores
stores_told_by (round_with page c) = c.answer.stores

-- The records that a call tells as closed: of a round its first replies.
abbrev pub closed_records : Call → List Entry
closed_records (one x) = pick (is_closed x) (x.entry ∷ []) []
closed_records (one_with page x) = pick (chain.is_closed x) (x.entry ∷ []) []
closed_records (round c) = take c.answer.closed (entries_of c.polled)
closed_records (round_with page c) = take c.answer.closed (entries_of c.polled)

-- The stores and the number of each save that a call tried, by what it tells.
abbrev pub answers_by : Call → List (ℕ × ℕ)
answers_by (one x) = (stores_made x.answer, saved_number x.answer) ∷ []
answers_by (one_with page x) = (x.answer.count, x.answer.number) ∷ []
answers_by (round c) = answers_told (entries_of c.polled) c.answer.closed c.answer.stores c.answer.number
answers_by (round_with page c) = answers_told (entries_of c.polled) c.answer.closed c.answer.stores c.answer.number

-- A save that made a store took a slot.
unfoldable pub slots_taken : List (ℕ × ℕ) → ℕ
slots_taken [] = 0
slots_taken (a ∷ more) = pick (ltb 0 a.0) 1 0 + slots_taken more

-- Of calls, the latest first: the records closed, the oldest first, and the slots taken.
unfoldable pub closed_all : List Call → List Entry
closed_all [] = []
closed_all (c ∷ cs) = closed_all cs ++ closed_records c

unfoldable pub taken_all : List Call → ℕ
unfolding slots_taken
taken_all [] = 0
taken_all (c ∷ cs) = taken_all cs + slots_taken (answers_by c)

-- A host that keeps a summary beside its sheet: it begins by making it; a call with a summary is handed the one that it has, and gives it the next; and whatever else
-- was called, or cut by the power before an answer came, it makes the summary afresh.
pub data Keeps (from : List ℕ) : List ℕ → Summary → Type 0 where
  begun : (made : Made) → MakesSummary from made → Keeps from from made.summary
  kept_one : {s t : List ℕ} {page : Summary} (x : Step) → Keeps from s page → Goes s page x t → Keeps from t x.answer.summary
  kept_round : {s t : List ℕ} {page : Summary} (c : CalledWith) → Keeps from s page
      → SavesRoundWith s page c.polled c.allowance c.answer t → Keeps from t c.answer.summary
  afresh : {s t : List ℕ} {page : Summary} (cs : List Call) (made : Made) → Keeps from s page → Calls s cs t → MakesSummary t made
      → Keeps from t made.summary
