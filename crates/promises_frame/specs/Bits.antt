-- Bits are bits: the numbers that the definitions work with are the document's bits. A mark is 1, bit 1 is the highest bit of the first byte.
use Rattle.std.specs.Prelude.{◌≡◌, ◌↔◌, true, List, ℕ, zero, suc, ◌+◌, ◌-◌, ◌*◌, ◌/◌, ◌%◌, ◌^◌, ◌≤◌, ◌<◌, length, get_or}
use Rattle.frame.specs.Line.{line, field, bit, first_bytes, formed}

-- Bytes, as a call is lent them.
abbrev pub AreBytes : List ℕ → Type 0
AreBytes s = (i : ℕ) → get_or s i 0 < 256

-- Bit i of a run of bytes, counted from 1: eight to a byte, the highest first.
abbrev pub bit_at : List ℕ → ℕ → ℕ
bit_at s i = get_or s ((i - 1) / 8) 0 / 2 ^ (7 - (i - 1) % 8) % 2

-- The number that `size` bits from bit a on write, most significant bit first.
unfoldable pub number_at : List ℕ → ℕ → ℕ → ℕ
number_at s a zero = 0
number_at s a (suc size) = number_at s a size * 2 + bit_at s (a + size)

-- A line is lent in the right form: at most 64 bits, as many bytes as they take, and after them only zeros.
pub record InForm (count : ℕ) (s : List ℕ) : Type 0 where
  pub at_most_64 : count ≤ 64
  pub size : length s ≡ (count + 7) / 8
  pub pads : (i : ℕ) → count < i → i ≤ 8 * length s → bit_at s i ≡ 0

pub record BitsAreBits : Type 0 where
  -- Bits a to b of lent bytes, as the definitions read them.
  pub read : (s : List ℕ) → AreBytes s → (a b : ℕ) → 1 ≤ a → a ≤ b → b ≤ 64 → field (line s) a b ≡ number_at s a (b + 1 - a)
  -- Each bit of a line, in the bytes that are written.
  pub written : (size n i : ℕ) → size ≤ 8 → 1 ≤ i → i ≤ 8 * size → bit_at (first_bytes size n) i ≡ bit n i
  -- The form that the definitions test.
  pub form : (count : ℕ) (s : List ℕ) → AreBytes s → (formed count s ≡ true) ↔ InForm count s
