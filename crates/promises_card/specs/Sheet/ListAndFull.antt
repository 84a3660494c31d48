-- List, full, stays: what the list of a month sheet is after any history of saves and cuts, and when the sheet is full.
use Rattle.std.specs.Prelude.{◌≡◌, ◌↔◌, Bool, true, ◌&&◌, List, [], ◌∷◌, ◌++◌, ℕ, ◌+◌, leb, ltb}
use Rattle.frame.specs.Pick.{pick}
use Rattle.sheet.specs.Record.{Entry, passes}
use Rattle.sheet.specs.Slots.{list_of}
use Rattle.sheet.specs.Save.{saved_number}
use Rattle.promises_card.specs.Sheet.History.{Save, TakesSheet, History, SheetAfter, all_stores, closed_in, broken_in, records_of}

-- A slot of n is left after a history: fewer records were closed and saves broken than there are slots.
abbrev pub slot_left : ℕ → List Save → Bool
slot_left n h = ltb (closed_in h + broken_in h) n

-- The allowance covered a record's last store.
abbrev pub covered : Save → Bool
covered x = leb (all_stores x) x.allowance

-- One list is the beginning of another.
abbrev pub Begins : List Entry → List Entry → Type 0
Begins xs ys = (more : List Entry) × (ys ≡ xs ++ more)

-- Here s is a sheet that any history h of saves left on a blank sheet of any allowed size, and x is one save more, which takes s to t.
pub record ListAndFull : Type 0 where
  -- The list after a save is the list before it, with that record at its end exactly if it passes the checks, a slot was left and the allowance
  -- covered its last store.
  pub list : (n : ℕ) (h : List Save) (s : List ℕ) → SheetAfter n h s → (x : Save) (t : List ℕ) → TakesSheet s x t
      → list_of t ≡ list_of s ++ pick (passes x.entry && slot_left n h && covered x) (x.entry ∷ []) []
  -- So the list is the closed records, the oldest first, and at the beginning it is empty.
  pub whole : (n : ℕ) (h : List Save) (s : List ℕ) → SheetAfter n h s → list_of s ≡ records_of h
  -- Of a good record 13 is said exactly when closed records and broken saves together number the slots.
  pub full : (n : ℕ) (h : List Save) (s : List ℕ) → SheetAfter n h s → (x : Save) (t : List ℕ) → TakesSheet s x t → passes x.entry ≡ true
      → (saved_number x.answer ≡ 13) ↔ (closed_in h + broken_in h ≡ n)
  -- Whatever is saved later, a list once read is the beginning of every later list.
  pub stays : (n : ℕ) (h : List Save) (s : List ℕ) → SheetAfter n h s → (later : List Save) (t : List ℕ) → History s later t
      → Begins (list_of s) (list_of t)
