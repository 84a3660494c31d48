-- The listing of a sheet is the first line, the lines of its slots in slot order, and the last line.
use Rattle.std.specs.Prelude.{◌≡◌, true, false, List, [], ◌++◌, ℕ, zero, suc, ◌<◌}
use Rattle.sheet.specs.Slots.{size_allowed, slots, slot_at, slot_of, blank}
use Rattle.listing.specs.Text.{ascii}
use Rattle.listing.specs.Calls.{WritesHead, WritesSlot, WritesLast, WritesListing}
use Rattle.promises_card.specs.Listing.Calls.{Wrote}

-- Lines one after another: the first k.
unfoldable pub joined : (ℕ → List ℕ) → ℕ → List ℕ
joined line zero = []
joined line (suc k) = joined line k ++ line k

pub record ListingInOrder : Type 0 where
  -- Whatever the four calls wrote of an allowed sheet, the whole is the lines joined.
  pub whole : (s : List ℕ) → size_allowed s ≡ true → (head last listing : List ℕ) (line : ℕ → List ℕ)
      → Wrote (WritesHead s) head → ((k : ℕ) → k < slots s → Wrote (WritesSlot s k) (line k)) → Wrote (WritesLast s) last → Wrote (WritesListing s) listing
      → listing ≡ head ++ joined line (slots s) ++ last
  -- A blank slot has no line, and a slot that is not blank has one.
  pub blank_has_none : (s line : List ℕ) (k : ℕ) → Wrote (WritesSlot s k) line → slot_of (slot_at s k) ≡ blank → line ≡ []
  pub others_have_one : (s line : List ℕ) (k : ℕ) → Wrote (WritesSlot s k) line → (slot_of (slot_at s k) ≡ blank → ⊥) → line ≡ [] → ⊥
  -- Of a bad size, only "fault 12".
  pub bad_size : (s listing : List ℕ) → size_allowed s ≡ false → Wrote (WritesListing s) listing → listing ≡ ascii "fault 12\n"
