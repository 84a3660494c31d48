-- Demand 3 over calls of every kind: list, full, stays, count, and the summary at any moment, told by the answers of the calls alone.
use Rattle.std.specs.Prelude.{◌≡◌, ◌≢◌, ◌↔◌, true, false, ◌&&◌, List, ◌∷◌, ◌++◌, ℕ, ◌+◌, ◌<◌, ◌≤◌, ltb, length, take, drop}
use Rattle.sheet.specs.Record.{Entry, passes}
use Rattle.sheet.specs.Slots.{size_allowed, list_of}
use Rattle.sheet.specs.Stores.{made}
use Rattle.sheet.specs.Save.{saved_number}
use Rattle.summary.specs.declared.Summary.{Summary}
use Rattle.summary.specs.declared.Kept.{Kept}
use Rattle.summary.specs.Worked.{summary_of}
use Rattle.summary.specs.Calls.{SavesWith}
use Rattle.round.specs.Replies.{entries_of}
use Rattle.round.specs.Calls.{most_replies, SavesRoundWith}
use Rattle.promises_card.specs.Sheet.History.{Save, SheetAfter, blank_sheet, is_closed, closed_in, broken_in, records_of}
use Rattle.promises_card.specs.Sheet.ListAndFull.{covered, Begins}
use Rattle.promises_card.specs.Summary.Chain.{Step, Goes, summary_refused}
use Rattle.promises_card.specs.Round.Histories.{Called, CalledWith}
use Rattle.promises_card.specs.Round.AnyCalls.{Call, one, one_with, round, round_with, Does, Calls, stores_by_call, stores_told_by, closed_records, closed_all, taken_all, Keeps}

-- A round stopped at a good reply with stores left and no slot: its next reply passes the checks, and the slots taken before it and those of its closed replies number
-- all.
pub record NoSlotLeft (n taken : ℕ) (replies : List Entry) (closed stores allowance : ℕ) : Type 0 where
  pub next : Entry
  pub more : List Entry
  pub behind : drop closed replies ≡ next ∷ more
  pub good : passes next ≡ true
  pub stores_left : stores < allowance
  pub all_slots : taken + closed ≡ n

pub record DemandThreeWhole : Type 0 where
  -- count: each call makes its stores, one after another, and tells how many they are.
  pub count : (s : List ℕ) (c : Call) (t : List ℕ) → Does s c t → (t ≡ made s (stores_by_call s c)) × (stores_told_by c ≡ length (stores_by_call s c))
  -- list: on any sheet of an allowed size the list grows by the records that the call tells as closed.
  pub list : (s : List ℕ) → size_allowed s ≡ true → (c : Call) (t : List ℕ) → Does s c t → list_of t ≡ list_of s ++ closed_records c
  -- The sheet that calls left on a blank one is one that a history of saves left, which closed just those records and took just those slots; so all that demand 3 says of
  -- a history holds.
  pub history : (n : ℕ) → n ≤ 2048 → (cs : List Call) (s : List ℕ) → Calls (blank_sheet n) cs s
      → (h : List Save) × (SheetAfter n h s × ((records_of h ≡ closed_all cs) × (closed_in h + broken_in h ≡ taken_all cs)))
  pub whole : (n : ℕ) → n ≤ 2048 → (cs : List Call) (s : List ℕ) → Calls (blank_sheet n) cs s → list_of s ≡ closed_all cs
  -- A single save after any calls is closed exactly if its record passes the checks, a slot was left and the allowance covered its last store.
  pub closes : (n : ℕ) → n ≤ 2048 → (cs : List Call) (s : List ℕ) → Calls (blank_sheet n) cs s → (x : Save) (t : List ℕ) → Does s (one x) t
      → is_closed x ≡ (passes x.entry && ltb (taken_all cs) n && covered x)
  -- full: 13 is said of a good record exactly when the slots taken number all.
  pub full_one : (n : ℕ) → n ≤ 2048 → (cs : List Call) (s : List ℕ) → Calls (blank_sheet n) cs s → (x : Save) (t : List ℕ) → Does s (one x) t
      → passes x.entry ≡ true → (saved_number x.answer ≡ 13) ↔ (taken_all cs ≡ n)
  pub full_one_with : (n : ℕ) → n ≤ 2048 → (cs : List Call) (s : List ℕ) → Calls (blank_sheet n) cs s → (page : Summary) (x : Step) (t : List ℕ)
      → Does s (one_with page x) t → summary_refused x ≡ false → passes x.entry ≡ true → (x.answer.number ≡ 13) ↔ (taken_all cs ≡ n)
  pub full-round : (n : ℕ) → n ≤ 2048 → (cs : List Call) (s : List ℕ) → Calls (blank_sheet n) cs s → (c : Called) (t : List ℕ) → Does s (round c) t
      → c.polled.count ≤ most_replies
      → (c.answer.number ≡ 13)
      ↔ NoSlotLeft n (taken_all cs) (entries_of c.polled) c.answer.closed c.answer.stores c.allowance
  pub full-round-with : (n : ℕ) → n ≤ 2048 → (cs : List Call) (s : List ℕ) → Calls (blank_sheet n) cs s → (page : Summary) (c : CalledWith) (t : List ℕ)
      → Does s (round_with page c) t → c.polled.count ≤ most_replies → c.answer.number ≢ 37 → c.answer.number ≢ 24
      → (c.answer.number ≡ 13)
      ↔ NoSlotLeft n (taken_all cs) (entries_of c.polled) c.answer.closed c.answer.stores c.allowance
  -- stays: a list once read is the beginning of every later list.
  pub stays : (s : List ℕ) → size_allowed s ≡ true → (later : List Call) (t : List ℕ) → Calls s later t → Begins (list_of s) (list_of t)
  -- cut, of a save with a summary: the sheet after the first k stores of one told of more is the sheet after one told of k.
  pub cut_one_with : (s : List ℕ) (page : Summary) (x : Step) (k : ℕ) → k ≤ x.allowance → (answer : Kept) (t : List ℕ)
      → SavesWith s page x.entry k answer t → made s (take k (stores_by_call s (one_with page x))) ≡ t
  -- At any moment the summary that a host keeps is the one worked out from the list of its sheet, and no call that is handed it is refused by 37 or 24.
  pub at-any-moment : (from : List ℕ) → size_allowed from ≡ true → (t : List ℕ) (page : Summary) → Keeps from t page → page ≡ summary_of (list_of t)
  pub never : (from : List ℕ) → size_allowed from ≡ true → (s : List ℕ) (page : Summary) → Keeps from s page → (x : Step) (t : List ℕ) → Goes s page x t
      → (x.answer.number ≢ 37) × (x.answer.number ≢ 24)
  pub never_round : (from : List ℕ) → size_allowed from ≡ true → (s : List ℕ) (page : Summary) → Keeps from s page → (c : CalledWith) (t : List ℕ)
      → SavesRoundWith s page c.polled c.allowance c.answer t → (c.answer.number ≢ 37) × (c.answer.number ≢ 24)
