-- Look and list agree: the list is the records that `look` gives at slots 0, 1, 2 .. in order.
use Rattle.std.specs.Prelude.{◌≡◌, true, List, [], ◌++◌, ℕ, zero, suc, ◌<◌}
use Rattle.sheet.specs.declared.Looked.{Looked}
use Rattle.sheet.specs.Record.{Entry}
use Rattle.sheet.specs.Slots.{size_allowed, slots, list_of}
use Rattle.sheet.specs.Look.{Looks, record_told}

-- The records that answers tell, slot after slot: of the first k.
unfoldable pub gathered : (ℕ → Looked) → ℕ → List Entry
gathered answer zero = []
gathered answer (suc k) = gathered answer k ++ record_told (answer k).found (answer k).reply

pub record LookAndList : Type 0 where
  pub agree : (s : List ℕ) → size_allowed s ≡ true → (answer : ℕ → Looked) → ((k : ℕ) → k < slots s → Looks s k (answer k))
      → list_of s ≡ gathered answer (slots s)
