-- Room for a line: 40 bytes are enough for every line of a sheet, whatever its slots hold, and `room_for` for its whole listing.
use Rattle.std.specs.Prelude.{◌≡◌, true, List, ℕ, ◌<◌, ◌≤◌, length, get_or}
use Rattle.frame.specs.Poll.{written_number}
use Rattle.sheet.specs.Slots.{size_allowed, slots}
use Rattle.listing.specs.Lines.{listing_of}
use Rattle.listing.specs.Calls.{WritesHead, WritesSlot, WritesLast, room_for}
use Rattle.std.specs.Prelude.{Result}
use Rattle.frame.specs.declared.faults.Fault.{Fault}

pub record ListingRoom : Type 0 where
  -- Of an allowed size, an output of 40 bytes is refused by none of the three calls.
  pub head-line : (s out after : List ℕ) (said : Result ℕ Fault) → size_allowed s ≡ true → 40 ≤ length out → WritesHead s out said after → written_number said ≡ 0
  pub slot-line : (s out after : List ℕ) (slot : ℕ) (said : Result ℕ Fault) → ((i : ℕ) → get_or s i 0 < 256) → size_allowed s ≡ true → slot < slots s
      → 40 ≤ length out → WritesSlot s slot out said after → written_number said ≡ 0
  pub last_line : (s out after : List ℕ) (said : Result ℕ Fault) → size_allowed s ≡ true → 40 ≤ length out → WritesLast s out said after → written_number said ≡ 0
  -- The whole listing is no longer than the room that `whole_listing` asks for.
  pub whole : (s : List ℕ) → ((i : ℕ) → get_or s i 0 < 256) → length (listing_of s) ≤ room_for s
