-- Document 01, "The month sheet": the slots of a sheet, what a slot reads as, the list, and the slot that a save goes to.
use Rattle.std.specs.Prelude.{Bool, ◌&&◌, List, [], ◌∷◌, ◌++◌, ℕ, zero, suc, ◌*◌, ◌/◌, ◌%◌, eqb, leb, length, get_or, take, drop}
use Rattle.frame.specs.Pick.{pick}
use Rattle.sheet.specs.Bytes.{FF, all_blank}
use Rattle.sheet.specs.Record.{Entry, is_record, fields_of}

-- A sheet's length is a multiple of 32, and at most 65,536.
abbrev pub length_allowed : ℕ → Bool
length_allowed n = eqb (n % 32) 0 && leb n 65536

abbrev pub size_allowed : List ℕ → Bool
size_allowed s = length_allowed (length s)

-- A sheet's slots, and the 32 bytes of one, counted from 0.
abbrev pub slots : List ℕ → ℕ
slots s = length s / 32

abbrev pub slot_at : List ℕ → ℕ → List ℕ
slot_at s k = take 32 (drop (32 * k) s)

-- A slot reads as blank (all FF); spoiled (first byte FF, another not); a record; else foreign.
pub data Slot : Type 0 where
  blank : Slot
  spoiled : Slot
  foreign : Slot
  holds : Entry → Slot

unfoldable pub slot_of : List ℕ → Slot
slot_of x = pick (all_blank x) blank (pick (eqb (get_or x 0 0) FF) spoiled (pick (is_record x) (holds (fields_of x)) foreign))

-- The list is the records in slot order: here those of the first k slots, and those of all.
abbrev pub record_in : Slot → List Entry
record_in blank = []
record_in spoiled = []
record_in foreign = []
record_in (holds e) = e ∷ []

unfoldable pub list_up_to : List ℕ → ℕ → List Entry
list_up_to s zero = []
list_up_to s (suc k) = list_up_to s k ++ record_in (slot_of (slot_at s k))

abbrev pub list_of : List ℕ → List Entry
list_of s = list_up_to s (slots s)

-- The slot after the last one that has a byte other than FF: among the first k, and among all.
unfoldable pub next_up_to : List ℕ → ℕ → ℕ
next_up_to s zero = 0
next_up_to s (suc k) = pick (all_blank (slot_at s k)) (next_up_to s k) (suc k)

abbrev pub next : List ℕ → ℕ
next s = next_up_to s (slots s)
