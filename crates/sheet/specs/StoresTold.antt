-- A save told as its stores, for a host that makes them itself: what `save_stores` answers, and which stores an answer tells.
use Rattle.std.specs.Prelude.{◌≡◌, List, [], ◌∷◌, ◌++◌, map, ℕ, ◌+◌, ◌-◌, ◌*◌, eqb, length, take, replicate}
use Rattle.frame.specs.Pick.{pick}
use Rattle.sheet.specs.declared.tell.SaveStores.{SaveStores}
use Rattle.sheet.specs.Record.{Entry}
use Rattle.sheet.specs.Slots.{next}
use Rattle.sheet.specs.Stores.{Store, ◌puts◌, stores}
use Rattle.sheet.specs.Save.{save_fault}

-- A row of 19, as many as a record can have stores: behind what is told zeros.
abbrev pub zeros_behind : List ℕ → List ℕ
zeros_behind row = row ++ replicate (19 - length row) 0

-- Some stores told: the slot, how many they are, and for each, in order, its place within the slot and its byte.
abbrev pub telling : ℕ → List Store → SaveStores
telling slot ps =
    record {
      slot = slot;
      places = zeros_behind (map (λ (p : Store). p.place) ps);
      bytes = zeros_behind (map (λ (p : Store). p.byte) ps);
      count = length ps;
      number = 0;
    }

-- A refusal told: its number, with all else 0.
abbrev pub refusing : ℕ → SaveStores
refusing number =
    record { slot = 0; places = replicate 19 0; bytes = replicate 19 0; count = 0; number = number }

-- What a save would do is told, or what it would be refused by: the stores of its record, in order, within the slot that it goes to.
unfoldable pub save_told : List ℕ → Entry → SaveStores
save_told s e = pick (eqb (save_fault s e) 0) (telling (next s) (stores 0 e)) (refusing (save_fault s e))

-- What `save_stores` answers. It changes nothing.
pub record TellsStores (sheet : List ℕ) (e : Entry) (answer : SaveStores) : Type 0 where
  pub answers : answer ≡ save_told sheet e

-- A store goes to byte 32 * slot + place of the sheet. The count alone says what is a store.
abbrev pub laid : ℕ → List ℕ → List ℕ → List Store
laid at [] bytes = []
laid at (p ∷ places) [] = []
laid at (p ∷ places) (b ∷ bytes) = (at + p) puts b ∷ laid at places bytes

unfoldable pub stores_told : SaveStores → List Store
stores_told a = take a.count (laid (32 * a.slot) a.places a.bytes)
