-- Document 02, request 01: what `sisal_hear_lines` answers.
use Rattle.std.specs.Prelude.{◌≡◌, List, ℕ, eqb}
use Rattle.frame.specs.Pick.{pick}
use Rattle.lines.specs.declared.SoFar.{SoFar}
use Rattle.lines.specs.declared.LinesTold.{LinesTold}
use Rattle.lines.specs.Timing.{Timing, timing, timing_fault}
use Rattle.lines.specs.SoFar.{meant}
use Rattle.lines.specs.Hearing.{Hearing, nothing, hearing, hear, number_told, count_told, bytes_told}

-- A hearing in integers: the samples taken and the state stand beside whatever is told.
abbrev pub answer_of : Hearing → ℕ → LinesTold
answer_of h number =
    record { so_far = h.left; taken = h.taken; message = bytes_told h.told; count = count_told h.told; number = number }

abbrev pub answered : Hearing → LinesTold
answered h = answer_of h (number_told h.told)

-- Bad timing numbers are refused by 20: nothing is taken, and the state comes back as it was handed in, bit for bit. Else the samples are heard from what
-- the state means; 21 or 22 stands beside the samples taken.
unfoldable pub lines_answer : SoFar → Timing → List ℕ → LinesTold
lines_answer s t samples =
    pick (eqb (timing_fault t) 0) (answered (hear t (meant s) samples))
    (answer_of (hearing nothing s 0) (timing_fault t))

pub record HearsLines (begun : SoFar) (least most gap : ℕ) (samples : List ℕ) (answer : LinesTold) : Type 0 where
  pub answers : answer ≡ lines_answer begun (timing least most gap) samples
