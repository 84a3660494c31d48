-- One outcome of each call on polls and replies.
use Rattle.std.specs.Prelude.{Bool, List, ℕ}
use Rattle.frame.specs.declared.Reading.{Reading}
use Rattle.frame.specs.Poll.{ReadsPoll, WritesPoll}
use Rattle.frame.specs.Reply.{ReadsReply, WritesReply}
use Rattle.promises_frame.specs.One.{One}
use Rattle.std.specs.Prelude.{Result}
use Rattle.frame.specs.declared.faults.Fault.{Fault}
use Rattle.frame.specs.declared.Poll.{Poll}

-- Of a write the outcome is its answer and the output after it.
pub record OneOutcome : Type 0 where
  pub read-poll : (poll : List ℕ) → One (Result Poll Fault) (ReadsPoll poll)
  pub write-poll : (address : ℕ) (raise reset : Bool) (out : List ℕ)
      → One ((Result ℕ Fault) × List ℕ) (λ o. WritesPoll address raise reset out o.0 o.1)
  pub read-reply : (settings address count : ℕ) (reply : List ℕ) → One (Result Reading Fault) (ReadsReply settings address count reply)
  pub write-reply : (settings address : ℕ) (r : Reading) (out : List ℕ)
      → One ((Result ℕ Fault) × List ℕ) (λ o. WritesReply settings address r out o.0 o.1)
