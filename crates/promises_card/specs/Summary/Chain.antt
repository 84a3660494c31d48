-- Saves that keep a summary, one after another: each is handed the summary that the one before it left.
use Rattle.std.specs.Prelude.{Bool, ◌||◌, List, [], ◌∷◌, ℕ, ◌^◌, ◌<◌, eqb}
use Rattle.frame.specs.Pick.{pick}
use Rattle.sheet.specs.Record.{Entry}
use Rattle.summary.specs.declared.Summary.{Summary}
use Rattle.summary.specs.declared.Kept.{Kept}
use Rattle.summary.specs.Calls.{SavesWith}
use Rattle.promises_card.specs.Sheet.History.{Save, closed_with}
use Rattle.std.specs.Prelude.{Result, Ok, Err}
use Rattle.frame.specs.declared.faults.Fault.{Fault}
use Rattle.frame.specs.Faults.{fault}

-- A save: its record, whose minute has 32 bits, how many stores it may make, and what it was answered.
pub record Step : Type 0 where
  pub entry : Entry
  pub minute_fits : entry.minute < 2 ^ 32
  pub allowance : ℕ
  pub answer : Kept

-- Handed a summary, it takes one sheet to another as the contract of the call says.
abbrev pub Goes : List ℕ → Summary → Step → List ℕ → Type 0
Goes s page x t = SavesWith s page x.entry x.allowance x.answer t

-- A chain from a sheet and a summary to a sheet and a summary, the latest save first.
pub data Chain (from : List ℕ) (begin : Summary) : List Step → List ℕ → Summary → Type 0 where
  begun : Chain from begin [] from begin
  kept : {h : List Step} {s t : List ℕ} {page : Summary} (x : Step) → Chain from begin h s page → Goes s page x t
      → Chain from begin (x ∷ h) t x.answer.summary

-- It closed its record: all stores were made.
abbrev pub is_closed : Step → Bool
is_closed x = closed_with x.entry x.answer.count

-- It was refused by 37 or by 24.
abbrev pub summary_refused : Step → Bool
summary_refused x = eqb x.answer.number 37 || eqb x.answer.number 24

-- The same answer as the sheet's own save gives it, and the save that it is then.
abbrev pub saved_as : Kept → Result ℕ Fault
saved_as k = pick (eqb k.number 0) (Ok k.count) (Err (fault k.number))

abbrev pub as_save : Step → Save
as_save x = record { entry = x.entry; minute_fits = x.minute_fits; allowance = x.allowance; answer = saved_as x.answer }

-- The saves of a chain that were not so refused.
unfoldable pub saves_tried : List Step → List Save
saves_tried [] = []
saves_tried (x ∷ h) = pick (summary_refused x) (saves_tried h) (as_save x ∷ saves_tried h)
