-- In steps: the stores told, taken several at once, each step wholly or not at all, in order.
use Rattle.std.specs.Prelude.{◌≡◌, ◌≢◌, List, [], ◌∷◌, ◌++◌, ℕ, ◌<◌, length, get_or, take}
use Rattle.sheet.specs.declared.tell.SaveStores.{SaveStores}
use Rattle.sheet.specs.Record.{Entry}
use Rattle.sheet.specs.Stores.{Store}
use Rattle.sheet.specs.Save.{Saves}
use Rattle.sheet.specs.StoresTold.{TellsStores, stores_told}
use Rattle.promises_card.specs.Sheet.OneSave.{nth}
use Rattle.std.specs.Prelude.{Result}
use Rattle.frame.specs.declared.faults.Fault.{Fault}

-- Stores made at once, in no order: each byte stands at its place, and every other byte is what it was.
pub record AtOnce (s : List ℕ) (ps : List Store) (t : List ℕ) : Type 0 where
  pub as_long : length t ≡ length s
  pub stored : (k : ℕ) → k < length ps → get_or t (nth ps k).place 0 ≡ (nth ps k).byte
  pub kept : (i : ℕ) → ((k : ℕ) → k < length ps → (nth ps k).place ≢ i) → get_or t i 0 ≡ get_or s i 0

-- Steps made one after another take one sheet to another.
pub data Stepped : List ℕ → List (List Store) → List ℕ → Type 0 where
  none_made : {s : List ℕ} → Stepped s [] s
  step_made : {s t u : List ℕ} {ps : List Store} {steps : List (List Store)} → AtOnce s ps t → Stepped t steps u → Stepped s (ps ∷ steps) u

-- The stores of some steps, in order.
abbrev pub stores_in : List (List Store) → List Store
stores_in [] = []
stores_in (ps ∷ steps) = ps ++ stores_in steps

pub record InSteps : Type 0 where
  -- Into whatever steps the stores told are parted, the first j of them leave what a save with as many stores as those have leaves.
  pub leaves : (s : List ℕ) (e : Entry) (told : SaveStores) → TellsStores s e told → (steps : List (List Store)) → stores_in steps ≡ stores_told told
      → (j : ℕ) (t : List ℕ) → Stepped s (take j steps) t → (answer : Result ℕ Fault) (u : List ℕ) → Saves s e (length (stores_in (take j steps))) answer u → t ≡ u
  -- And such steps can be made.
  pub can : (s : List ℕ) (e : Entry) (told : SaveStores) → TellsStores s e told → (steps : List (List Store)) → stores_in steps ≡ stores_told told
      → (j : ℕ) → (t : List ℕ) × Stepped s (take j steps) t
