-- Our request 15: what `sisal_draw` answers, and the output after it.
use Rattle.std.specs.Prelude.{◌≡◌, not, List, [], ◌∷◌, ◌++◌, ℕ, eqb, length, take, drop}
use Rattle.frame.specs.Pick.{pick}
use Rattle.frame.specs.Line.{formed}
use Rattle.frame.specs.Faults.{◌gives◌, first_of}
use Rattle.drawing.specs.declared.Done.{Done}
use Rattle.drawing.specs.Pulses.{bad_pulse, drawing}

-- 20, asked first: a pulse or an idle out of range. 14: more than 64 bits, the wrong number of bytes, a pad bit 1.
unfoldable pub draw_fault : (low still count : ℕ) → List ℕ → ℕ
draw_fault low still count message = first_of (bad_pulse low still gives 20 ∷ not (formed count message) gives 14 ∷ [])

abbrev pub done : ℕ → ℕ → Done
done count number = record { count = count; number = number }

-- The samples from one on, as many as there are or fit.
unfoldable pub portion : (low still count : ℕ) → List ℕ → (from room : ℕ) → List ℕ
portion low still count message from room = take room (drop from (drawing low still count message))

-- Only the samples' bytes change, and none where it refuses.
pub record Draws (low still count : ℕ) (message : List ℕ) (from : ℕ) (out : List ℕ) (answer : Done) (after : List ℕ) : Type 0 where
  pub answers : answer
      ≡ pick (eqb (draw_fault low still count message) 0) (done (length (portion low still count message from (length out))) 0)
      (done 0 (draw_fault low still count message))
  pub leaves : after
      ≡ pick (eqb (draw_fault low still count message) 0)
      (portion low still count message from (length out) ++ drop (length (portion low still count message from (length out))) out)
      out
