-- Calls one after another, drawing and hearing in whatever order and batches the host has: each with the same pace and the state that the last one left.
use Rattle.std.specs.Prelude.{◌≡◌, ◌&&◌, List, [], ◌∷◌, ◌++◌, ℕ, ◌≤◌, eqb, ltb, take}
use Rattle.frame.specs.Pick.{pick}
use Rattle.polling.specs.Drawing.{LeftByDrawing}
use Rattle.polling.specs.declared.Pace.{Pace}
use Rattle.polling.specs.declared.Polling.{Polling}
use Rattle.polling.specs.Settling.{LeftByHearing}
use Rattle.polling.specs.Calls.{DrawsPolling, HearsPolling}

-- The host's clock over a history: it goes as it will, or shows one minute.
pub data Clock : Type 0 where
  any : Clock
  always : ℕ → Clock

abbrev pub Shows : Clock → ℕ → Type 0
Shows any minute = 0 ≤ minute
Shows (always m) minute = minute ≡ m

-- What is told of a try that is settled: which reply it was, whether it now stands, whether the round is now over, and by what number.
pub record Verdict : Type 0 where
  pub reply : ℕ
  pub answered : ℕ
  pub over : ℕ
  pub number : ℕ

abbrev pub verdict : LeftByHearing → Verdict
verdict a = record { reply = a.reply; answered = a.answered; over = a.over; number = a.number }

-- A call that took a sample and no longer listens has settled a try; any other has told nothing.
abbrev pub verdicts : LeftByHearing → List Verdict
verdicts a = pick (ltb 0 a.taken && eqb a.polling.listening 0) (verdict a ∷ []) []

-- A history: the samples drawn, end to end, the samples taken, end to end, what was told, and the state at the end. The latest call comes last.
pub data History (p : Pace) (clock : Clock) (from : Polling) : (drawn taken : List ℕ) → List Verdict → Polling → Type 0 where
  begun : History p clock from [] [] [] from
  drew : {drawn taken : List ℕ} {told : List Verdict} {w : Polling} (out after : List ℕ) (answer : LeftByDrawing)
      → History p clock from drawn taken told w → DrawsPolling w p out answer after
      → History p clock from (drawn ++ take answer.count after) taken told answer.polling
  heard : {drawn taken : List ℕ} {told : List Verdict} {w : Polling} (minute : ℕ) (samples : List ℕ) (answer : LeftByHearing)
      → Shows clock minute → History p clock from drawn taken told w → HearsPolling w p minute samples answer
      → History p clock from drawn (taken ++ take answer.taken samples) (told ++ verdicts answer) answer.polling
