-- What the call answers, and the output after it.
use Rattle.std.specs.Prelude.{Option, List, ℕ, ◌+◌, ◌*◌, length, Result}
use Rattle.sheet.specs.Slots.{size_allowed, slots}
use Rattle.listing.specs.Calls.{Writes}
use Rattle.calendar.specs.declared.counting.Day.{Day}
use Rattle.picture.specs.Page.{page_of}
use Rattle.frame.specs.declared.faults.Fault.{Fault}

-- Bytes that are always enough: 624 for each slot, 145,000 more, and the name twice.
abbrev pub room_for : List ℕ → List ℕ → ℕ
room_for s name = 624 * slots s + 145000 + 2 * length name

abbrev pub WritesPicture : List ℕ → List ℕ → Option Day → List ℕ → Result ℕ Fault → List ℕ → Type 0
WritesPicture s name begin = Writes (size_allowed s) (room_for s name) (page_of s name begin)
