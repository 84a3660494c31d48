-- The list and the lines of a sheet, one slot more. Assumes nothing.
use mathlib.Core.Path.{◌≡◌}
use mathlib.Core.List.{List, ◌++◌}
use Prim.Native.Nat.{ℕ, ◌+◌}
use native.Mathlib.Numerals.{add-one}
use lib.ListN.{length, length-append}
use Rattle.sheet.specs.Slots.{slot_at, slot_of, record_in, list_up_to}
use Rattle.listing.specs.Lines.{slot_line, lines_up_to}

pub lines_more : (s : List ℕ) (k : ℕ) → lines_up_to s (k + 1) ≡ lines_up_to s k ++ slot_line s k
unfolding lines_up_to
lines_more s k = rw add-one

pub records-more : (s : List ℕ) (k : ℕ) → length (list_up_to s (k + 1)) ≡ length (list_up_to s k) + length (record_in (slot_of (slot_at s k)))
unfolding list_up_to
records-more s k = rw add-one (length-append (list_up_to s k) (record_in (slot_of (slot_at s k))))
