-- Document 01, "The month sheet": what a look at a slot answers.
use Rattle.std.specs.Prelude.{◌≡◌, ◌&&◌, List, [], ◌∷◌, ◌++◌, ℕ, ◌-◌, eqb, ltb, length, take, replicate}
use Rattle.frame.specs.Pick.{pick}
use Rattle.frame.specs.Faults.{number_of, fault}
use Rattle.frame.specs.Line.{bytes_for}
use Rattle.sheet.specs.declared.Head.{Head}
use Rattle.sheet.specs.declared.Found.{Found}
use Rattle.sheet.specs.declared.Found.TheVariants.{Blank, Spoiled, Foreign, Record, Refused}
use Rattle.sheet.specs.declared.Looked.{Looked}
use Rattle.sheet.specs.Record.{Entry, entry_of}
use Rattle.sheet.specs.Slots.{Slot, blank, spoiled, foreign, holds, slot_of, slot_at, slots, size_allowed}

-- An answer without reply bytes.
abbrev pub bare : Found → Looked
bare f = record { found = f; reply = replicate 8 0 }

-- A record's head, and the record of a head and reply bytes.
abbrev pub head_of : Entry → Head
head_of e = record { settings = e.settings; minute = e.minute; address = e.address; count = e.count }

abbrev pub entry_with : Head → List ℕ → Entry
entry_with h reply = entry_of h.settings h.minute h.address h.count reply

-- What is answered of a slot: of a record all that it says, its reply bytes from the first on and 0 after them.
abbrev pub look_told : Slot → Looked
look_told blank = bare Blank
look_told spoiled = bare Spoiled
look_told foreign = bare Foreign
look_told (holds e) = record { found = Record (head_of e); reply = e.reply ++ replicate (8 - length e.reply) 0 }

-- A part of a sheet that is read as a slot has 32 bytes; any other is refused.
unfoldable pub part_of : List ℕ → Looked
part_of x = pick (eqb (length x) 32) (look_told (slot_of x)) (bare (Refused (fault 12)))

-- Looking at a slot: 12 where the sheet's size is not allowed or the slot lies beyond the last.
unfoldable pub look_of : List ℕ → ℕ → Looked
look_of s k = pick (size_allowed s && ltb k (slots s)) (look_told (slot_of (slot_at s k))) (bare (Refused (fault 12)))

-- What `look` answers.
pub record Looks (sheet : List ℕ) (slot : ℕ) (answer : Looked) : Type 0 where
  pub answers : answer ≡ look_of sheet slot

-- The paper's number of an answer, 0 where nothing is refused.
abbrev pub found_number : Found → ℕ
found_number Blank = 0
found_number Spoiled = 0
found_number Foreign = 0
found_number (Record h) = 0
found_number (Refused f) = number_of f

-- The records that an answer tells: one, whole, or none.
abbrev pub record_told : Found → List ℕ → List Entry
record_told Blank r = []
record_told Spoiled r = []
record_told Foreign r = []
record_told (Record h) r =
    entry_with h (take (bytes_for h.count) r) ∷ []
record_told (Refused f) r = []
