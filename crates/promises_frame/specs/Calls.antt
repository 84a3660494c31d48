-- What a call left: the bytes that stand first in the buffer after a write, the buffer having been long enough, whatever stood there.
use Rattle.std.specs.Prelude.{◌≡◌, List, ℕ, ◌≤◌, length, take}
use Rattle.frame.specs.declared.Poll.{Poll}
use Rattle.frame.specs.declared.Reading.{Reading}
use Rattle.frame.specs.Poll.{WritesPoll}
use Rattle.frame.specs.Reply.{WritesReply, size_for}
use Rattle.std.specs.Prelude.{Result}
use Rattle.frame.specs.declared.faults.Fault.{Fault}

-- `write_reply` was lent `out`, left `after` in it and answered `said`; `bytes` are the first 5 or 7.
pub record ReplyLeft (settings address : ℕ) (r : Reading) (bytes : List ℕ) : Type 0 where
  pub out : List ℕ
  pub after : List ℕ
  pub said : Result ℕ Fault
  pub long_enough : size_for r ≤ length out
  pub call : WritesReply settings address r out said after
  pub first : bytes ≡ take (size_for r) after

-- `write_poll` the same; `bytes` are the first 2.
pub record PollLeft (p : Poll) (bytes : List ℕ) : Type 0 where
  pub out : List ℕ
  pub after : List ℕ
  pub said : Result ℕ Fault
  pub long_enough : 2 ≤ length out
  pub call : WritesPoll p.address p.raise p.reset out said after
  pub first : bytes ≡ take 2 after
