-- First fault, of the sheet's calls: the lines of document 01's table that bear on them, and the order in which each asks.
use Rattle.std.specs.Prelude.{not, ◌&&◌, List, [], ◌∷◌, ℕ, leb, ltb}
use Rattle.frame.specs.Line.{formed}
use Rattle.frame.specs.Faults.{Test, ◌gives◌}
use Rattle.sheet.specs.declared.Looked.{Looked}
use Rattle.sheet.specs.declared.tell.SaveStores.{SaveStores}
use Rattle.sheet.specs.Record.{Entry}
use Rattle.sheet.specs.Slots.{size_allowed, slots, next}
use Rattle.sheet.specs.Save.{Saves, saved_number}
use Rattle.sheet.specs.Look.{Looks, found_number}
use Rattle.sheet.specs.StoresTold.{TellsStores}
use Rattle.promises_frame.specs.FirstFault.{FirstThatApplies}
use Rattle.std.specs.Prelude.{Result}
use Rattle.frame.specs.declared.faults.Fault.{Fault}

abbrev pub save_table : List ℕ → Entry → List Test
save_table s e =
    ltb 15 e.settings gives 10
    ∷ ltb 999 e.address gives 11
    ∷ not (size_allowed s) gives 12
    ∷ leb (slots s) (next s) gives 13
    ∷ not (formed e.count e.reply) gives 14
    ∷ []

abbrev pub save_order : List ℕ
save_order = 12 ∷ 10 ∷ 11 ∷ 14 ∷ 13 ∷ []

abbrev pub look_table : List ℕ → ℕ → List Test
look_table s slot = not (size_allowed s && ltb slot (slots s)) gives 12 ∷ []

pub record SheetFault : Type 0 where
  pub save : (s : List ℕ) (e : Entry) (allowance : ℕ) (answer : Result ℕ Fault) (t : List ℕ) → Saves s e allowance answer t
      → FirstThatApplies (save_table s e) save_order (saved_number answer)
  pub look : (s : List ℕ) (slot : ℕ) (answer : Looked) → Looks s slot answer
      → FirstThatApplies (look_table s slot) (12 ∷ []) (found_number answer.found)
  -- A save told as its stores is refused as the save is.
  pub tell : (s : List ℕ) (e : Entry) (answer : SaveStores) → TellsStores s e answer → FirstThatApplies (save_table s e) save_order answer.number
