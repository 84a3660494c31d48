-- Slots in order: after any history on a blank sheet, slot j holds the record of the j-th save that made at least one store, or reads as spoiled where that
-- save was broken, and every later slot is blank.
use Rattle.std.specs.Prelude.{◌≡◌, Bool, List, [], ◌∷◌, ◌++◌, ℕ, ◌<◌, ◌≤◌, ltb, length, get_or}
use Rattle.frame.specs.Pick.{pick}
use Rattle.sheet.specs.Slots.{Slot, blank, spoiled, holds, slot_at, slot_of}
use Rattle.sheet.specs.Save.{stores_made}
use Rattle.promises_card.specs.Sheet.History.{Save, SheetAfter, is_closed}

-- A save that made at least one store has a slot: it reads as the record where the save made all its stores, and as spoiled where it was broken.
abbrev pub has_slot : Save → Bool
has_slot x = ltb 0 (stores_made x.answer)

abbrev pub slot_of_save : Save → Slot
slot_of_save x = pick (is_closed x) (holds x.entry) spoiled

-- The slots of a history's saves, the oldest first.
unfoldable pub slots_of_saves : List Save → List Slot
slots_of_saves [] = []
slots_of_saves (x ∷ h) = slots_of_saves h ++ pick (has_slot x) (slot_of_save x ∷ []) []

pub record SlotsInOrder : Type 0 where
  -- They are no more than the sheet has.
  pub enough : (n : ℕ) (h : List Save) (s : List ℕ) → SheetAfter n h s → length (slots_of_saves h) ≤ n
  pub filled : (n : ℕ) (h : List Save) (s : List ℕ) → SheetAfter n h s
      → (j : ℕ) → j < length (slots_of_saves h) → slot_of (slot_at s j) ≡ get_or (slots_of_saves h) j blank
  pub later : (n : ℕ) (h : List Save) (s : List ℕ) → SheetAfter n h s
      → (j : ℕ) → length (slots_of_saves h) ≤ j → j < n → slot_of (slot_at s j) ≡ blank
