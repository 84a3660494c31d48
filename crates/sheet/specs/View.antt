-- Document 01, "The sheet is seen through a view of the lent bytes, one slot at a time".
use Rattle.std.specs.Prelude.{◌≡◌, Result, Ok, Err, List, [], ℕ, ◌/◌, ltb, length}
use Rattle.std.specs.Borrow.{Bor}
use Rattle.frame.specs.Pick.{pick}
use Rattle.sheet.specs.declared.Looked.{Looked}
use Rattle.sheet.specs.declared.view.Sheet.{Sheet}
use Rattle.frame.specs.declared.faults.Fault.{Fault}
use Rattle.frame.specs.Faults.{number_of, fault}
use Rattle.sheet.specs.Slots.{length_allowed, size_allowed, slots, slot_at}
use Rattle.sheet.specs.Look.{part_of}

-- What `count_slots` answers: the slots of a sheet, or 12 where its size is not allowed.
unfoldable pub slots_counted : List ℕ → Result ℕ Fault
slots_counted s = pick (size_allowed s) (Ok (slots s)) (Err (fault 12))

pub record Counts (sheet : List ℕ) (answer : Result ℕ Fault) : Type 0 where
  pub answers : answer ≡ slots_counted sheet

-- The slots that so many bytes make: none where the size is not allowed.
unfoldable pub slots_for : ℕ → ℕ
slots_for len = pick (length_allowed len) (len / 32) 0

-- What `open` answers: a view of the very bytes that were lent, and their slots.
pub record Opens (lent : Bor (List ℕ)) (answer : Sheet) : Type 0 where
  pub bytes : answer.bytes ≡ lent
  pub slots : answer.slots ≡ slots_for (length lent.now)

-- What a slot of a view reads as, whatever count of slots the view holds: 12 where the slot is beyond that count, or its 32 bytes are not all there.
unfoldable pub seen_of : List ℕ → ℕ → ℕ → Looked
seen_of bytes slots k = part_of (pick (ltb k slots) (slot_at bytes k) [])

-- What `slot_in` answers.
pub record Sees (bytes : List ℕ) (slots slot : ℕ) (answer : Looked) : Type 0 where
  pub answers : answer ≡ seen_of bytes slots slot

-- The paper's number of an answer, 0 where nothing is refused, and the slots that it tells.
abbrev pub counted_number : Result ℕ Fault → ℕ
counted_number (Ok n) = 0
counted_number (Err f) = number_of f

abbrev pub slots_told : Result ℕ Fault → ℕ
slots_told (Ok n) = n
slots_told (Err f) = 0
