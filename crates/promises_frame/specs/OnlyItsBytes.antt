-- A refused write changes no byte, and a write that is made changes only the first 2, 5 or 7.
use Rattle.std.specs.Prelude.{◌≡◌, Bool, List, ℕ, ◌≤◌, length, get_or}
use Rattle.frame.specs.declared.Reading.{Reading}
use Rattle.frame.specs.Poll.{WritesPoll, written_number}
use Rattle.frame.specs.Reply.{WritesReply, size_for}
use Rattle.std.specs.Prelude.{Result}
use Rattle.frame.specs.declared.faults.Fault.{Fault}

-- An output before and after a write of `size` bytes that answered `said`.
pub record OnlyFirst (size : ℕ) (said : Result ℕ Fault) (out after : List ℕ) : Type 0 where
  pub refused : ¬ (written_number said ≡ 0) → after ≡ out
  pub same_length : length after ≡ length out
  pub others : (i : ℕ) → size ≤ i → get_or after i 0 ≡ get_or out i 0

pub record OnlyItsBytes : Type 0 where
  pub write-reply : (settings address : ℕ) (r : Reading) (out after : List ℕ) (said : Result ℕ Fault) → WritesReply settings address r out said after
      → OnlyFirst (size_for r) said out after
  pub write-poll : (address : ℕ) (raise reset : Bool) (out after : List ℕ) (said : Result ℕ Fault) → WritesPoll address raise reset out said after
      → OnlyFirst 2 said out after
