-- One outcome, of the sheet's calls: what a contract's record allows for given inputs, answer and sheet, is one thing and no other.
use Rattle.std.specs.Prelude.{List, ℕ}
use Rattle.sheet.specs.declared.Looked.{Looked}
use Rattle.sheet.specs.declared.tell.SaveStores.{SaveStores}
use Rattle.sheet.specs.Record.{Entry}
use Rattle.sheet.specs.Save.{Saves}
use Rattle.sheet.specs.Look.{Looks}
use Rattle.sheet.specs.StoresTold.{TellsStores}
use Rattle.promises_frame.specs.One.{One}
use Rattle.std.specs.Prelude.{Result}
use Rattle.frame.specs.declared.faults.Fault.{Fault}

-- Of a save the outcome is its answer and the sheet after it.
pub record SheetOutcome : Type 0 where
  pub save : (s : List ℕ) (e : Entry) (allowance : ℕ) → One ((Result ℕ Fault) × List ℕ) (λ o. Saves s e allowance o.0 o.1)
  pub look : (s : List ℕ) (slot : ℕ) → One Looked (Looks s slot)
  pub tell : (s : List ℕ) (e : Entry) → One SaveStores (TellsStores s e)
