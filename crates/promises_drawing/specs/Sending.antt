-- Calls one after another, each from the sample where the last one ended, into whatever outputs the host has.
use Rattle.std.specs.Prelude.{List, [], ◌++◌, ℕ, length, take}
use Rattle.drawing.specs.declared.Done.{Done}
use Rattle.drawing.specs.Calls.{Draws}

-- A history: the samples put down so far, end to end. The latest call comes last.
pub data Sending (low still count : ℕ) (message : List ℕ) : List ℕ → Type 0 where
  begun : Sending low still count message []
  called : {sent : List ℕ} (out : List ℕ) (answer : Done) (after : List ℕ)
      → Sending low still count message sent → Draws low still count message (length sent) out answer after
      → Sending low still count message (sent ++ take answer.count after)
