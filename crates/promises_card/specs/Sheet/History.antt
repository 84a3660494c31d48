-- Histories of a month sheet: saves tried one after another, each of any record whatsoever, good or bad, with any allowance.
use Rattle.std.specs.Prelude.{Bool, ◌&&◌, List, [], ◌∷◌, ◌++◌, ℕ, ◌+◌, ◌*◌, ◌^◌, ◌<◌, ◌≤◌, eqb, ltb, replicate}
use Rattle.frame.specs.Pick.{pick}
use Rattle.sheet.specs.Bytes.{FF}
use Rattle.sheet.specs.Record.{Entry, length_of}
use Rattle.sheet.specs.Save.{Saves, stores_made}
use Rattle.std.specs.Prelude.{Result}
use Rattle.frame.specs.declared.faults.Fault.{Fault}

-- A save: its record, whose minute has 32 bits, how many stores it may make, and what it was answered.
pub record Save : Type 0 where
  pub entry : Entry
  pub minute_fits : entry.minute < 2 ^ 32
  pub allowance : ℕ
  pub answer : Result ℕ Fault

-- It takes one sheet to another as the contract of the call says.
abbrev pub TakesSheet : List ℕ → Save → List ℕ → Type 0
TakesSheet s x t = Saves s x.entry x.allowance x.answer t

-- A history from one sheet to another, the latest save first.
pub data History (from : List ℕ) : List Save → List ℕ → Type 0 where
  begun : History from [] from
  saved : {h : List Save} {s t : List ℕ} (x : Save) → History from h s → TakesSheet s x t → History from (x ∷ h) t

-- A blank sheet of n slots.
abbrev pub blank_sheet : ℕ → List ℕ
blank_sheet n = replicate (32 * n) FF

-- The sheet s is left by the history h on a blank sheet of n slots, which are at most 2,048.
pub record SheetAfter (n : ℕ) (h : List Save) (s : List ℕ) : Type 0 where
  pub allowed : n ≤ 2048
  pub history : History (blank_sheet n) h s

-- A record's stores are its length and two more.
abbrev pub all_stores : Save → ℕ
all_stores x = length_of x.entry + 2

-- A record is closed by so many stores where they are all.
abbrev pub closed_with : Entry → ℕ → Bool
closed_with e stores = eqb stores (length_of e + 2)

-- A save that made all its stores closed a record. A broken save made at least one, not all.
abbrev pub is_closed : Save → Bool
is_closed x = closed_with x.entry (stores_made x.answer)

abbrev pub is_broken : Save → Bool
is_broken x = ltb 0 (stores_made x.answer) && ltb (stores_made x.answer) (all_stores x)

-- How many saves of a history were such.
unfoldable pub count_of : (Save → Bool) → List Save → ℕ
count_of f [] = 0
count_of f (x ∷ h) = count_of f h + pick (f x) 1 0

abbrev pub closed_in : List Save → ℕ
closed_in h = count_of is_closed h

abbrev pub broken_in : List Save → ℕ
broken_in h = count_of is_broken h

-- The records that a history closed, the oldest first.
unfoldable pub records_of : List Save → List Entry
records_of [] = []
records_of (x ∷ h) = records_of h ++ pick (is_closed x) (x.entry ∷ []) []
