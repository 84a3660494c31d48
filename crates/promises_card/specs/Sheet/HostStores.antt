-- Demand 3 of a host that stores itself: histories of told saves, each cut after any number of its stores, with list, full and stays as for saves.
use Rattle.std.specs.Prelude.{◌≡◌, ◌↔◌, true, ◌&&◌, List, [], ◌∷◌, ◌++◌, map, ℕ, ◌+◌, ◌^◌, ◌<◌, ◌≤◌, min, eqb, take}
use Rattle.frame.specs.Pick.{pick}
use Rattle.sheet.specs.declared.tell.SaveStores.{SaveStores}
use Rattle.sheet.specs.Record.{Entry, passes}
use Rattle.sheet.specs.Slots.{list_of}
use Rattle.sheet.specs.Stores.{made}
use Rattle.sheet.specs.StoresTold.{TellsStores, stores_told}
use Rattle.promises_card.specs.Sheet.History.{Save, History, blank_sheet, closed_in, broken_in, records_of}
use Rattle.promises_card.specs.Sheet.ListAndFull.{slot_left, covered, Begins}
use Rattle.std.specs.Prelude.{Ok, Err}
use Rattle.frame.specs.Faults.{fault}

-- A save that a host makes itself: its record, whose minute has 32 bits, what it was told, and after how many stores the power was cut; a cut after
-- them all is none.
pub record ToldSave : Type 0 where
  pub entry : Entry
  pub minute_fits : entry.minute < 2 ^ 32
  pub told : SaveStores
  pub cut : ℕ

-- It takes one sheet to another: told of the one, with the first stores told made on it.
pub record HostTakes (s : List ℕ) (x : ToldSave) (t : List ℕ) : Type 0 where
  pub tells : TellsStores s x.entry x.told
  pub makes : t ≡ made s (take x.cut (stores_told x.told))

-- A history from one sheet to another, the latest first.
pub data HostHistory (from : List ℕ) : List ToldSave → List ℕ → Type 0 where
  untouched : HostHistory from [] from
  stored : {h : List ToldSave} {s t : List ℕ} (x : ToldSave) → HostHistory from h s → HostTakes s x t → HostHistory from (x ∷ h) t

-- What it comes to as a save: with so many stores allowed, answered the number told, or the stores that were made.
abbrev pub as_save : ToldSave → Save
as_save x =
    record {
      entry = x.entry;
      minute_fits = x.minute_fits;
      allowance = x.cut;
      answer = pick (eqb x.told.number 0) (Ok (min x.cut x.told.count)) (Err (fault x.told.number));
    }

abbrev pub as_saves : List ToldSave → List Save
as_saves h = map as_save h

-- Here s is a sheet that any history h left on a blank sheet of n slots, at most 2,048, and x is one told save more, which takes s to t.
pub record HostStores : Type 0 where
  -- A history of told saves is a history of saves.
  pub history : (from : List ℕ) (h : List ToldSave) (t : List ℕ) → HostHistory from h t → History from (as_saves h) t
  pub list : (n : ℕ) → n ≤ 2048 → (h : List ToldSave) (s : List ℕ) → HostHistory (blank_sheet n) h s → (x : ToldSave) (t : List ℕ) → HostTakes s x t
      → list_of t ≡ list_of s ++ pick (passes x.entry && slot_left n (as_saves h) && covered (as_save x)) (x.entry ∷ []) []
  pub whole : (n : ℕ) → n ≤ 2048 → (h : List ToldSave) (s : List ℕ) → HostHistory (blank_sheet n) h s → list_of s ≡ records_of (as_saves h)
  -- Of a good record 13 is told exactly when closed records and broken saves together number the slots.
  pub full : (n : ℕ) → n ≤ 2048 → (h : List ToldSave) (s : List ℕ) → HostHistory (blank_sheet n) h s → (x : ToldSave) (t : List ℕ) → HostTakes s x t
      → passes x.entry ≡ true → (x.told.number ≡ 13) ↔ (closed_in (as_saves h) + broken_in (as_saves h) ≡ n)
  -- A list once read is the beginning of every later list.
  pub stays : (n : ℕ) → n ≤ 2048 → (h : List ToldSave) (s : List ℕ) → HostHistory (blank_sheet n) h s → (later : List ToldSave) (t : List ℕ)
      → HostHistory s later t → Begins (list_of s) (list_of t)
