-- One outcome, the first fault, and only its bytes.
use Rattle.std.specs.Prelude.{◌≡◌, not, ◌||◌, List, [], ◌∷◌, ℕ, ◌≤◌, ltb, length, get_or}
use Rattle.frame.specs.Line.{formed}
use Rattle.frame.specs.Faults.{Test, ◌gives◌}
use Rattle.drawing.specs.declared.Done.{Done}
use Rattle.drawing.specs.Calls.{Draws}
use Rattle.promises_frame.specs.One.{One}
use Rattle.promises_frame.specs.FirstFault.{FirstThatApplies}

-- The contract allows one answer and one output, for all that a call is handed.
pub record DrawOutcome : Type 0 where
  pub draw : (low still count : ℕ) (message : List ℕ) (from : ℕ) (out : List ℕ)
      → One (Done × List ℕ) (λ o. Draws low still count message from out o.0 o.1)

-- 20 is a pulse or an idle out of range, 14 a message not in form.
abbrev pub draw_table : (low still count : ℕ) → List ℕ → List Test
draw_table low still count message =
    (ltb low 1 || ltb 1000 low || ltb still 1 || ltb 10000 still) gives 20 ∷ not (formed count message) gives 14 ∷ []

abbrev pub draw_order : List ℕ
draw_order = 20 ∷ 14 ∷ []

pub record DrawFirstFault : Type 0 where
  pub draw : (low still count : ℕ) (message : List ℕ) (from : ℕ) (out after : List ℕ) (answer : Done) → Draws low still count message from out answer after
      → FirstThatApplies (draw_table low still count message) draw_order answer.number

-- A refusal changes no byte, and a call that draws changes only those that it counts.
pub record DrawOnlyItsBytes : Type 0 where
  pub refused : (low still count : ℕ) (message : List ℕ) (from : ℕ) (out after : List ℕ) (answer : Done) → Draws low still count message from out answer after
      → ¬ (answer.number ≡ 0) → (after ≡ out) × (answer.count ≡ 0)
  pub same_length : (low still count : ℕ) (message : List ℕ) (from : ℕ) (out after : List ℕ) (answer : Done) → Draws low still count message from out answer after
      → length after ≡ length out
  pub others : (low still count : ℕ) (message : List ℕ) (from : ℕ) (out after : List ℕ) (answer : Done) → Draws low still count message from out answer after
      → (k : ℕ) → answer.count ≤ k → get_or after k 0 ≡ get_or out k 0
