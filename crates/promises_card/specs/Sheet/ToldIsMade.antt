-- Told is made: the stores that `save_stores` tells, made by a host itself, are what `save` does.
use Rattle.std.specs.Prelude.{◌≡◌, ◌≢◌, List, ℕ, ◌≤◌, min, length, get_or, take}
use Rattle.sheet.specs.declared.tell.SaveStores.{SaveStores}
use Rattle.sheet.specs.Record.{Entry}
use Rattle.sheet.specs.Stores.{made}
use Rattle.sheet.specs.Save.{Saves, saved_number, stores_made}
use Rattle.sheet.specs.StoresTold.{refusing, TellsStores, stores_told}
use Rattle.std.specs.Prelude.{Result}
use Rattle.frame.specs.declared.faults.Fault.{Fault}

-- Here s is any sheet and e any record, good or bad, and `told` is what is told of saving it there.
pub record ToldIsMade : Type 0 where
  -- Making the first k of the stores told, one byte each, in order, leaves just what a save with allowance k leaves, whatever k is.
  pub leaves : (s : List ℕ) (e : Entry) (told : SaveStores) → TellsStores s e told → (k : ℕ) (answer : Result ℕ Fault) (t : List ℕ) → Saves s e k answer t
      → made s (take k (stores_told told)) ≡ t
  -- The save is refused by the number told, and answers as many stores as are told or as it may make.
  pub number : (s : List ℕ) (e : Entry) (told : SaveStores) → TellsStores s e told → (k : ℕ) (answer : Result ℕ Fault) (t : List ℕ) → Saves s e k answer t
      → saved_number answer ≡ told.number
  pub answers : (s : List ℕ) (e : Entry) (told : SaveStores) → TellsStores s e told → (k : ℕ) (answer : Result ℕ Fault) (t : List ℕ) → Saves s e k answer t
      → stores_made answer ≡ min k told.count
  -- The count is the number of stores, 11 to 19 of them. Behind them all is 0; and beside a refusal's number all else is.
  pub all_told : (s : List ℕ) (e : Entry) (told : SaveStores) → TellsStores s e told → length (stores_told told) ≡ told.count
  pub how_many : (s : List ℕ) (e : Entry) (told : SaveStores) → TellsStores s e told → told.number ≡ 0 → (11 ≤ told.count) × (told.count ≤ 19)
  pub zeros : (s : List ℕ) (e : Entry) (told : SaveStores) → TellsStores s e told
      → (i : ℕ) → told.count ≤ i → (get_or told.places i 0 ≡ 0) × (get_or told.bytes i 0 ≡ 0)
  pub refused : (s : List ℕ) (e : Entry) (told : SaveStores) → TellsStores s e told → told.number ≢ 0 → told ≡ refusing told.number
