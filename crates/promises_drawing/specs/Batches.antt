-- Any batching gives the same samples: calls that each go on where the last one ended put down the drawing, end to end.
use Rattle.std.specs.Prelude.{◌≡◌, List, ◌++◌, ℕ, ◌+◌, ◌*◌, ◌≤◌, length}
use Rattle.drawing.specs.declared.Done.{Done}
use Rattle.drawing.specs.Pulses.{drawing}
use Rattle.drawing.specs.Calls.{Draws}
use Rattle.promises_drawing.specs.Sending.{Sending}

pub record DrawBatches : Type 0 where
  -- What is down is a beginning of the drawing.
  pub begins : (low still count : ℕ) (message sent : List ℕ) → Sending low still count message sent
      → (rest : List ℕ) × (sent ++ rest ≡ drawing low still count message)
  -- It is all of it once it is as long, and where a call that has room draws no more.
  pub whole : (low still count : ℕ) (message sent : List ℕ) → Sending low still count message sent → length sent ≡ count * (low + still)
      → sent ≡ drawing low still count message
  pub no_more : (low still count : ℕ) (message sent : List ℕ) → Sending low still count message sent
      → (out after : List ℕ) (answer : Done) → Draws low still count message (length sent) out answer after → answer.number ≡ 0 → 1 ≤ length out
      → answer.count ≡ 0 → sent ≡ drawing low still count message
  -- Two histories to the same place have put down the same.
  pub same : (low still count : ℕ) (message sent other : List ℕ) → Sending low still count message sent → Sending low still count message other
      → length sent ≡ length other → sent ≡ other
