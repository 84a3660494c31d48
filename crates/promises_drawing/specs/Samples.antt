-- Each sample: its value depends on its number alone. The bit is its number divided by the samples of a bit, its place in the bit the remainder.
use Rattle.std.specs.Prelude.{◌≡◌, List, ℕ, ◌+◌, ◌-◌, ◌*◌, ◌/◌, ◌%◌, ◌<◌, ◌≤◌, min, eqb, length, get_or}
use Rattle.frame.specs.Pick.{pick}
use Rattle.drawing.specs.declared.Done.{Done}
use Rattle.drawing.specs.Calls.{Draws}
use Rattle.promises_frame.specs.Bits.{bit_at}
use Rattle.promises_drawing.specs.Sending.{Sending}

-- Sample k of a message: both lines still, or the line of its bit, 1 for a mark and 2 for a space.
pub record IsSample (low still : ℕ) (message : List ℕ) (k sample : ℕ) : Type 0 where
  pub idle : low ≤ k % (low + still) → sample ≡ 0
  pub line : k % (low + still) < low → sample ≡ pick (eqb (bit_at message (k / (low + still) + 1)) 1) 1 2

pub record EachSample : Type 0 where
  -- As many as there are or fit, from the sample asked for on.
  pub many : (low still count : ℕ) (message : List ℕ) (from : ℕ) (out after : List ℕ) (answer : Done) → Draws low still count message from out answer after
      → answer.number ≡ 0 → answer.count ≡ min (length out) (count * (low + still) - from)
  pub each : (low still count : ℕ) (message : List ℕ) (from : ℕ) (out after : List ℕ) (answer : Done) → Draws low still count message from out answer after
      → (j : ℕ) → j < answer.count → IsSample low still message (from + j) (get_or after j 9)
  -- And so of any calls one after another.
  pub sent : (low still count : ℕ) (message sent : List ℕ) → Sending low still count message sent
      → (k : ℕ) → k < length sent → IsSample low still message k (get_or sent k 9)
