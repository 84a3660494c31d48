-- All but the last, in any order: before the last store told is made, the slot shows no record, whichever of the others were made and in whatever order.
use Rattle.std.specs.Prelude.{◌≡◌, ◌≢◌, ◌⊎◌, List, [], ◌∷◌, ℕ, ◌-◌, ◌<◌, length, get_or, take, drop}
use Rattle.sheet.specs.declared.tell.SaveStores.{SaveStores}
use Rattle.sheet.specs.Record.{Entry}
use Rattle.sheet.specs.Slots.{blank, spoiled, slot_at, slot_of, list_of}
use Rattle.sheet.specs.Stores.{Store, made}
use Rattle.sheet.specs.Save.{Saves}
use Rattle.sheet.specs.StoresTold.{TellsStores, stores_told}
use Rattle.promises_card.specs.Sheet.OneSave.{nth}
use Rattle.promises_card.specs.Sheet.InSteps.{AtOnce}
use Rattle.std.specs.Prelude.{Result}
use Rattle.frame.specs.declared.faults.Fault.{Fault}

-- All but the last of the stores told, and the last.
abbrev pub all_but_last : SaveStores → List Store
all_but_last told = take (told.count - 1) (stores_told told)

abbrev pub the_last : SaveStores → List Store
the_last told = drop (told.count - 1) (stores_told told)

-- Each of some stores is one of these: in any order, any of them left out or made again.
abbrev pub Among : List Store → List Store → Type 0
Among ps [] = Unit {0}
Among ps (q ∷ qs) = ((k : ℕ) × (k < length ps) × (q ≡ nth ps k)) × Among ps qs

-- A write of these at once, torn or not: each byte is what it was, or what one of them puts there.
pub record Torn (s : List ℕ) (ps : List Store) (t : List ℕ) : Type 0 where
  pub as_long : length t ≡ length s
  pub each : (i : ℕ) → (get_or t i 0 ≡ get_or s i 0) ⊎ ((k : ℕ) × (k < length ps) × ((nth ps k).place ≡ i) × (get_or t i 0 ≡ (nth ps k).byte))

-- The slot is blank or spoiled, every other slot is left alone, and so the list is what it was.
pub record ShowsNone (s : List ℕ) (slot : ℕ) (t : List ℕ) : Type 0 where
  pub own : (slot_of (slot_at t slot) ≡ blank) ⊎ (slot_of (slot_at t slot) ≡ spoiled)
  pub others : (k : ℕ) → k ≢ slot → slot_at t k ≡ slot_at s k
  pub list : list_of t ≡ list_of s

-- Here `told` tells the stores of a save that is not refused.
pub record AllButTheLast : Type 0 where
  pub any_order : (s : List ℕ) (e : Entry) (told : SaveStores) → TellsStores s e told → told.number ≡ 0
      → (qs : List Store) → Among (all_but_last told) qs → ShowsNone s told.slot (made s qs)
  pub torn : (s : List ℕ) (e : Entry) (told : SaveStores) → TellsStores s e told → told.number ≡ 0
      → (t : List ℕ) → Torn s (all_but_last told) t → ShowsNone s told.slot t
  -- Where the write was not torn, the last store then leaves what a save with all its stores leaves.
  pub then_last : (s : List ℕ) (e : Entry) (told : SaveStores) → TellsStores s e told → (t : List ℕ) → AtOnce s (all_but_last told) t
      → (answer : Result ℕ Fault) (u : List ℕ) → Saves s e told.count answer u → made t (the_last told) ≡ u
