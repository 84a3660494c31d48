-- Parity covers the whole reply, parity bit included, even or odd by setting.
use Rattle.std.specs.Prelude.{◌≡◌, List, ℕ, zero, suc, ◌+◌, ◌*◌, ◌%◌, ◌≤◌, length}
use Rattle.frame.specs.declared.Reading.{Reading}
use Rattle.frame.specs.Line.{marks}
use Rattle.frame.specs.Reply.{ReadsReply, odd_parity, count_for}
use Rattle.promises_frame.specs.Bits.{AreBytes, bit_at}
use Rattle.promises_frame.specs.Calls.{ReplyLeft}
use Rattle.std.specs.Prelude.{Ok}

-- The marks among the first `count` bits.
unfoldable pub marks_among : List ℕ → ℕ → ℕ
marks_among s zero = 0
marks_among s (suc count) = marks_among s count + bit_at s (suc count)

-- Two lines that differ in bit j, of the first `count`, and in no other.
pub record OneWrong (s t : List ℕ) (count j : ℕ) : Type 0 where
  pub there : (1 ≤ j) × (j ≤ count)
  pub wrong : ¬ (bit_at t j ≡ bit_at s j)
  pub others : (i : ℕ) → 1 ≤ i → i ≤ count → ¬ (i ≡ j) → bit_at t i ≡ bit_at s i

pub record ParityKept : Type 0 where
  -- The marks that the definitions count, byte by byte, are the marks among all the bits.
  pub counted : (s : List ℕ) → AreBytes s → length s ≤ 8 → marks s ≡ marks_among s (8 * length s)
  -- A reply is written with an even or an odd number of marks, by setting.
  pub written : (settings address : ℕ) (r : Reading) → settings ≤ 15 → address ≤ 999
      → (bytes : List ℕ) → ReplyLeft settings address r bytes
      → marks_among bytes (count_for r) % 2 ≡ odd_parity settings
  -- Where a reply is accepted, no reply that differs from it in a single bit is.
  pub one-wrong : (settings address count : ℕ) (s t : List ℕ) → AreBytes s → AreBytes t
      → (r : Reading) → ReadsReply settings address count s (Ok r)
      → (j : ℕ) → OneWrong s t count j
      → (q : Reading) → ¬ ReadsReply settings address count t (Ok q)
