-- Level in general: what holds of ANY row of digits whose charts are sound, whatever stands above it. Document 01's four modes are such rows.
use Rattle.std.specs.Prelude.{◌≡◌, Bool, List, [], ◌∷◌, ℕ, ◌+◌, ◌*◌, ◌^◌, ◌<◌, get_or}
use Rattle.frame.specs.Charts.{Chart, size_of}
use Rattle.frame.specs.Level.{width_of, values_of, known, read_row, write_row}

-- A chart is sound: it has a code, each code is within its width, and no code stands twice.
pub record SoundChart (c : Chart) : Type 0 where
  pub some : 0 < size_of c
  pub within : (i : ℕ) → i < size_of c → get_or c.codes i 0 < 2 ^ c.width
  pub single : (i j : ℕ) → i < size_of c → j < size_of c → get_or c.codes i 0 ≡ get_or c.codes j 0 → i ≡ j

abbrev pub SoundRow : List Chart → Type 0
SoundRow [] = Unit {0}
SoundRow (c ∷ cs) = SoundChart c × SoundRow cs

-- Both round trips, from either oddness of the digit above and at any level so far.
pub record RowBothWays : Type 0 where
  -- What is written fits the row's bits, and is read as what was written.
  pub fits : (row : List Chart) → SoundRow row
      → (odd : Bool) (v : ℕ) → v < values_of row
      → write_row row odd v < 2 ^ width_of row
  pub written-then-read : (row : List Chart) → SoundRow row
      → (odd : Bool) (sofar place v : ℕ) → v < values_of row
      → read_row row (write_row row odd v) odd sofar place ≡ known (sofar * values_of row + v)
  -- What is read as a level was a value of the row after the level so far, and that value is written as the bits that were read.
  pub read-then-written : (row : List Chart) → SoundRow row
      → (bits : ℕ) → bits < 2 ^ width_of row
      → (odd : Bool) (sofar place v : ℕ) → read_row row bits odd sofar place ≡ known v
      → (w : ℕ) × (w < values_of row) × (v ≡ sofar * values_of row + w) × (write_row row odd w ≡ bits)
