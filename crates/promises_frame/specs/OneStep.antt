-- One step, one bit: two neighbouring levels, written, differ in exactly one bit, so that bits caught while the one goes over into the other are
-- those of the one or of the other.
use Rattle.std.specs.Prelude.{◌≡◌, ◌⊎◌, Bool, List, [], ◌∷◌, ℕ, ◌+◌, ◌-◌, ◌/◌, ◌%◌, ◌^◌, ◌<◌, ◌≤◌, get_or}
use Rattle.frame.specs.declared.Reading.{Reading}
use Rattle.frame.specs.Line.{line}
use Rattle.frame.specs.Charts.{Chart, size_of}
use Rattle.frame.specs.Level.{known, width_of, values_of, write_row, mode_of, level_of}
use Rattle.frame.specs.Reply.{mode_in}
use Rattle.promises_frame.specs.Bits.{AreBytes, bit_at}
use Rattle.promises_frame.specs.Calls.{ReplyLeft}

-- Of the bits from one to another exactly one differs: it does, and no other does.
pub record OneDiffers (from to : ℕ) (x y : ℕ → ℕ) : Type 0 where
  pub place : ℕ
  pub there : (from ≤ place) × (place ≤ to)
  pub differs : ¬ (x place ≡ y place)
  pub others : (i : ℕ) → from ≤ i → i ≤ to → ¬ (i ≡ place) → x i ≡ y i

-- Bit i of a number that is written in so many bits, counted from 1, the highest first.
abbrev pub bit_in : ℕ → ℕ → ℕ → ℕ
bit_in width n i = n / 2 ^ (width - i) % 2

-- Two numbers of so many bits differ in exactly one.
abbrev pub OneBitApart : ℕ → ℕ → ℕ → Type 0
OneBitApart width n m = OneDiffers 1 width (bit_in width n) (bit_in width m)

-- A digit with an even number of values, whose chart has codes of its width, each one bit apart from the next.
pub record Stepwise (c : Chart) : Type 0 where
  pub some : 0 < size_of c
  pub even : size_of c % 2 ≡ 0
  pub within : (i : ℕ) → i < size_of c → get_or c.codes i 0 < 2 ^ c.width
  pub neighbours : (i : ℕ) → i + 1 < size_of c → OneBitApart c.width (get_or c.codes i 0) (get_or c.codes (i + 1) 0)

abbrev pub StepwiseRow : List Chart → Type 0
StepwiseRow [] = Unit {0}
StepwiseRow (c ∷ cs) = Stepwise c × StepwiseRow cs

-- The replies of two neighbouring levels within their mode, with the same settings and address. Their alarms are free, and so are their temperatures:
-- one reply may have 40 bits and the other 56.
pub record Neighbours (settings address : ℕ) (r s : Reading) (one next : List ℕ) : Type 0 where
  pub settings_in : settings ≤ 15
  pub address_in : address ≤ 999
  pub above : s.level ≡ r.level + 1
  pub level_in : s.level ≤ (mode_in settings).largest
  pub one_left : ReplyLeft settings address r one
  pub next-left : ReplyLeft settings address s next

pub record OneStep : Type 0 where
  -- Any row of such digits, the digit above it odd or even.
  pub row : (row : List Chart) → StepwiseRow row
      → (odd : Bool) (v : ℕ) → v + 1 < values_of row
      → OneBitApart (width_of row) (write_row row odd v) (write_row row odd (v + 1))
  -- The four modes are such rows.
  pub modes : (mode : ℕ) → StepwiseRow (mode_of mode).row
  -- So of two neighbours' replies exactly one of bits 16 to 37 differs.
  pub replies : (settings address : ℕ) (r s : Reading) (one next : List ℕ) → Neighbours settings address r s one next
      → OneDiffers 16 37 (bit_at one) (bit_at next)
  -- Bytes caught between them, each of whose bits 16 to 37 is still the one's or already the other's, hold the level of the one or of the other.
  pub caught : (settings address : ℕ) (r s : Reading) (one next : List ℕ) → Neighbours settings address r s one next
      → (between : List ℕ) → AreBytes between
      → ((i : ℕ) → 16 ≤ i → i ≤ 37 → (bit_at between i ≡ bit_at one i) ⊎ (bit_at between i ≡ bit_at next i))
      → (level_of (mode_in settings) (line between) ≡ known r.level) ⊎ (level_of (mode_in settings) (line between) ≡ known s.level)
