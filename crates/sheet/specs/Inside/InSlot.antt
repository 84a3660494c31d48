-- A record's stores one by one: its bytes as they stand in the slot, and which of them is stored when. That these are the stores of
-- `specs/Stores.antt` is proved.
use Rattle.std.specs.Prelude.{◌≡◌, List, ◌++◌, ℕ, ◌+◌, ◌-◌, min, ltb, length, take, replicate}
use Rattle.frame.specs.Pick.{pick}
use Rattle.sheet.specs.Record.{Entry, length_of, record_of}
use Rattle.sheet.specs.Stores.{made, stores}

-- The 19 bytes of its slot that a record can take up: the record, and 0 after it.
abbrev pub in_slot : Entry → List ℕ
in_slot e = record_of e ++ replicate (8 - length e.reply) 0

-- Which byte of its slot the k-th store of a record goes to, where so many bytes follow the length: from the version on, ascending; then the low
-- byte of the length, then the high.
abbrev pub store_place : ℕ → ℕ → ℕ
store_place size k = pick (ltb k size) (2 + k) (size + 1 - k)

-- What making the first stores of a record answers, and the sheet after it.
pub record MakesStores (sheet : List ℕ) (at : ℕ) (e : Entry) (allowance many : ℕ) (left : List ℕ) : Type 0 where
  pub answers : many ≡ min allowance (length_of e + 2)
  pub leaves : left ≡ made sheet (take allowance (stores at e))
