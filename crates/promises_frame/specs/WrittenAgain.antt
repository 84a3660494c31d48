-- Accepted, then written again: the same bits, but for those not told and the parity over them.
use Rattle.std.specs.Prelude.{◌≡◌, Bool, List, ℕ, ◌≤◌, ◌<◌, length}
use Rattle.frame.specs.declared.Poll.{Poll}
use Rattle.frame.specs.declared.Reading.{Reading}
use Rattle.frame.specs.declared.Temperature.{Temperature}
use Rattle.frame.specs.Poll.{ReadsPoll}
use Rattle.frame.specs.Reply.{ReadsReply, is1800, count_for}
use Rattle.promises_frame.specs.Bits.{AreBytes, bit_at}
use Rattle.promises_frame.specs.NotTold.{NotTold, as_we_write}
use Rattle.promises_frame.specs.Calls.{ReplyLeft, PollLeft}
use Rattle.std.specs.Prelude.{Ok}

-- A reply s of `count` bits, and the same reading written again. Bit `count` is the parity.
pub record SameReply (is1800 : Bool) (count : ℕ) (t : Temperature) (s again : List ℕ) : Type 0 where
  pub same_size : length again ≡ length s
  pub same_bits : (i : ℕ) → 1 ≤ i → i < count → ¬ NotTold is1800 t i → bit_at again i ≡ bit_at s i
  pub as-we-write : (i : ℕ) → 1 ≤ i → i < count → NotTold is1800 t i → bit_at again i ≡ as_we_write t i
  pub same_whole : ((i : ℕ) → 1 ≤ i → i < count → NotTold is1800 t i → bit_at s i ≡ as_we_write t i) → again ≡ s

-- A poll s, and the same poll written again: bit 2 is not told.
pub record SamePoll (s again : List ℕ) : Type 0 where
  pub same_bits : (i : ℕ) → 1 ≤ i → i ≤ 16 → ¬ (i ≡ 2) → bit_at again i ≡ bit_at s i
  pub as-we-write : bit_at again 2 ≡ 0
  pub same_whole : bit_at s 2 ≡ 0 → again ≡ s

pub record WrittenAgain : Type 0 where
  -- Any bytes that `read_reply` accepts, at whatever settings, address and count: their reading, written at the same settings and address, has
  -- the same count and the same bits.
  pub reply : (settings address count : ℕ) (s : List ℕ) → AreBytes s
      → (r : Reading) → ReadsReply settings address count s (Ok r)
      → (again : List ℕ) → ReplyLeft settings address r again
      → (count_for r ≡ count) × SameReply (is1800 settings) count r.temperature s again
  pub poll : (s : List ℕ) → AreBytes s
      → (p : Poll) → ReadsPoll s (Ok p)
      → (again : List ℕ) → PollLeft p again
      → SamePoll s again
