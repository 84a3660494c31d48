-- One outcome and the first fault of the three calls.
use Rattle.std.specs.Prelude.{◌≡◌, Bool, true, false, not, ◌||◌, List, [], ◌∷◌, ℕ, ltb}
use Rattle.frame.specs.Faults.{Test, ◌gives◌}
use Rattle.board.specs.declared.Row.{Row}
use Rattle.board.specs.Rows.{board_of}
use Rattle.board.specs.Order.{in_address_order}
use Rattle.polling.specs.declared.Begun.{Begun}
use Rattle.polling.specs.Drawing.{LeftByDrawing}
use Rattle.polling.specs.declared.Pace.{Pace}
use Rattle.polling.specs.declared.Polling.{Polling}
use Rattle.polling.specs.Settling.{LeftByHearing}
use Rattle.polling.specs.Calls.{BeginsPolling, DrawsPolling, HearsPolling}
use Rattle.promises_frame.specs.One.{One}
use Rattle.promises_frame.specs.FirstFault.{FirstThatApplies}

-- The contracts allow one answer, and drawing one output, for all that a call is handed.
pub record PollingOutcome : Type 0 where
  pub begin : (rows : List Row) (minute : ℕ) → One Begun (BeginsPolling rows minute)
  pub draw : (w : Polling) (p : Pace) (out : List ℕ) → One (LeftByDrawing × List ℕ) (λ o. DrawsPolling w p out o.0 o.1)
  pub hear : (w : Polling) (p : Pace) (minute : ℕ) (samples : List ℕ) → One LeftByHearing (HearsPolling w p minute samples)

-- 38 is a board that is not kept in order.
abbrev pub begin_table : List Row → List Test
begin_table rows = not (in_address_order (board_of rows)) gives 38 ∷ []

-- 20 is a number of the pace out of its range.
abbrev pub out_of_pace : Pace → Bool
out_of_pace p =
    ltb p.low 1 || ltb 1000 p.low || ltb p.still 1 || ltb 10000 p.still || ltb 1000000 p.delay
    || (ltb p.most p.least || ltb p.least 1 || ltb 1000 p.least || ltb p.most 1 || ltb 1000 p.most || ltb p.gap 1 || ltb 10000 p.gap)
    || (ltb p.wait 1 || ltb 1000000 p.wait)
    || (ltb p.longest p.wait || ltb 10000000 p.longest)
    || (ltb p.tries 1 || ltb 9 p.tries)

abbrev pub pace_table : Pace → List Test
pace_table p = out_of_pace p gives 20 ∷ []

pub record PollingFirstFault : Type 0 where
  pub begin : (rows : List Row) (minute : ℕ) (answer : Begun) → BeginsPolling rows minute answer → FirstThatApplies (begin_table rows) (38 ∷ []) answer.number
  pub draw : (w : Polling) (p : Pace) (out after : List ℕ) (answer : LeftByDrawing) → DrawsPolling w p out answer after
      → FirstThatApplies (pace_table p) (20 ∷ []) answer.number
  -- 20 comes before all else, a round that is over too: the state comes back as it was handed in, and all else is 0.
  pub draw_20 : (w : Polling) (p : Pace) (out after : List ℕ) (answer : LeftByDrawing) → DrawsPolling w p out answer after → out_of_pace p ≡ true
      → (answer.polling ≡ w) × (answer.count ≡ 0) × (answer.over ≡ 0) × (after ≡ out)
  pub hear_20 : (w : Polling) (p : Pace) (minute : ℕ) (samples : List ℕ) (answer : LeftByHearing) → HearsPolling w p minute samples answer → out_of_pace p ≡ true
      → answer ≡ record { polling = w; taken = 0; reply = 0; answered = 0; over = 0; number = 20 }
  -- And only there: 21 and 22 are no refusals, but tell how a try was settled.
  pub hear_fine : (w : Polling) (p : Pace) (minute : ℕ) (samples : List ℕ) (answer : LeftByHearing) → HearsPolling w p minute samples answer → out_of_pace p ≡ false
      → answer.number ≡ 20 → ⊥
