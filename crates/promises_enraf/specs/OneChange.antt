-- One changed byte, and so one changed bit, of an accepted record is always refused.
use Rattle.std.specs.Prelude.{◌≡◌, List, ℕ, ◌<◌, ◌^◌, length, get_or, set}
use Rattle.std.specs.Int.Bits.{bit_xor}
use Rattle.enraf.specs.declared.ItemTold.{ItemTold}
use Rattle.enraf.specs.Reading.{ReadsItem}

pub record ItemOneChange : Type 0 where
  pub one_byte : (s : List ℕ) (got : ItemTold) → ReadsItem s got → got.number ≡ 0
      → (at byte : ℕ) → at < length s → ¬ (byte ≡ get_or s at 0)
      → (other : ItemTold) → ReadsItem (set s at byte) other
      → ¬ (other.number ≡ 0)
  -- bit k of a byte, counted from 0 at its lowest
  pub one_bit : (s : List ℕ) (got : ItemTold) → ReadsItem s got → got.number ≡ 0
      → (at k : ℕ) → at < length s
      → (other : ItemTold) → ReadsItem (set s at (bit_xor (get_or s at 0) (2 ^ k))) other
      → ¬ (other.number ≡ 0)
