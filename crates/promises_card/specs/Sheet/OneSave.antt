-- One save on any sheet, blank, used, foreign or of a size that is refused: its stores, the slot that it goes to, and a cut.
use Rattle.std.specs.Prelude.{◌≡◌, ◌≢◌, List, [], ℕ, ◌+◌, ◌-◌, ◌*◌, ◌<◌, ◌≤◌, eqb, length, get_or, take}
use Rattle.frame.specs.Pick.{pick}
use Rattle.sheet.specs.Bytes.{FF}
use Rattle.sheet.specs.Record.{Entry}
use Rattle.sheet.specs.Slots.{spoiled, holds, slots, slot_at, slot_of, next}
use Rattle.sheet.specs.Stores.{Store, ◌puts◌, made, stores}
use Rattle.sheet.specs.Save.{save_fault, Saves, saved_number, stores_made}
use Rattle.promises_card.specs.Sheet.History.{Save, TakesSheet, all_stores}
use Rattle.std.specs.Prelude.{Result}
use Rattle.frame.specs.declared.faults.Fault.{Fault}

-- The stores that a save makes, in order: none where it is refused.
abbrev pub stores_of : List ℕ → Entry → ℕ → List Store
stores_of s e allowance = pick (eqb (save_fault s e) 0) (take allowance (stores (32 * next s) e)) []

-- The k-th of some stores.
abbrev pub nth : List Store → ℕ → Store
nth ps k = get_or ps k (0 puts 0)

-- count: the answer is the number of stores, and the sheet after differs from the one before in exactly those: each goes to a byte of the sheet, to
-- which no other goes, its byte stands there afterwards, and every other byte is what it was.
pub record Count (s : List ℕ) (ps : List Store) (answer : Result ℕ Fault) (t : List ℕ) : Type 0 where
  pub number : stores_made answer ≡ length ps
  pub as_long : length t ≡ length s
  pub inside : (k : ℕ) → k < length ps → (nth ps k).place < length s
  pub once : (j k : ℕ) → j < k → k < length ps → (nth ps j).place ≢ (nth ps k).place
  pub stored : (k : ℕ) → k < length ps → get_or t (nth ps k).place 0 ≡ (nth ps k).byte
  pub kept : (i : ℕ) → ((k : ℕ) → k < length ps → (nth ps k).place ≢ i) → get_or t i 0 ≡ get_or s i 0

-- next: the slot that a save goes to is the one after the last that has a byte other than FF.
pub record Next (s : List ℕ) (answer : Result ℕ Fault) (t : List ℕ) : Type 0 where
  -- From it on every byte is FF.
  pub blank_on : (i : ℕ) → 32 * next s ≤ i → i < 32 * slots s → get_or s i 0 ≡ FF
  -- The slot before it, if there is one, has a byte other than FF.
  pub used_before : 0 < next s → (i : ℕ) × (32 * (next s - 1) ≤ i) × (i < 32 * next s) × (get_or s i 0 ≢ FF)
  -- Every other slot stays.
  pub others : (k : ℕ) → k ≢ next s → slot_at t k ≡ slot_at s k
  -- Where a store was made, the version stands there.
  pub there : 0 < stores_made answer → get_or t (32 * next s + 2) 0 ≡ 1

pub record OneSave : Type 0 where
  pub count : (s : List ℕ) (e : Entry) (allowance : ℕ) (answer : Result ℕ Fault) (t : List ℕ) → Saves s e allowance answer t
      → Count s (stores_of s e allowance) answer t
  pub next-slot : (s : List ℕ) (e : Entry) (allowance : ℕ) (answer : Result ℕ Fault) (t : List ℕ) → Saves s e allowance answer t → Next s answer t
  -- cut: the sheet after the first k stores of a save told of more is the sheet after a save told of k, so a cut that nobody told it of leaves the
  -- same.
  pub cut : (s : List ℕ) (e : Entry) (allowance k : ℕ) → k ≤ allowance → (answer : Result ℕ Fault) (t : List ℕ) → Saves s e k answer t
      → made s (take k (stores_of s e allowance)) ≡ t
  -- A refused save changes no byte.
  pub refused : (s : List ℕ) (e : Entry) (allowance : ℕ) (answer : Result ℕ Fault) (t : List ℕ) → Saves s e allowance answer t
      → saved_number answer ≢ 0 → t ≡ s
  -- A save that made all its stores leaves a slot that reads as its record, and a broken one a slot that reads as spoiled.
  pub closes : (x : Save) (s t : List ℕ) → TakesSheet s x t → stores_made x.answer ≡ all_stores x
      → slot_of (slot_at t (next s)) ≡ holds x.entry
  pub breaks : (x : Save) (s t : List ℕ) → TakesSheet s x t → 0 < stores_made x.answer → stores_made x.answer < all_stores x
      → slot_of (slot_at t (next s)) ≡ spoiled
