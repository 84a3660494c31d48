-- Our request 16: what the three calls answer, the lent state after two of them, and the output after drawing.
use Rattle.std.specs.Prelude.{◌≡◌, List, ◌++◌, ℕ, eqb, length, drop}
use Rattle.frame.specs.Pick.{pick}
use Rattle.frame.specs.Line.{mark}
use Rattle.board.specs.declared.Row.{Row}
use Rattle.board.specs.Rows.{board_of}
use Rattle.board.specs.Order.{if_in_order}
use Rattle.polling.specs.declared.Begun.{Begun}
use Rattle.polling.specs.declared.Pace.{Pace}
use Rattle.polling.specs.declared.Polling.{Polling}
use Rattle.polling.specs.Pace.{pace_fault}
use Rattle.polling.specs.Beginning.{beginning, nothing_begun}
use Rattle.polling.specs.Meant.{is_over, meant}
use Rattle.polling.specs.Drawing.{drawn_by, after_drawn, LeftByDrawing, drew}
use Rattle.polling.specs.Listening.{listen}
use Rattle.polling.specs.Settling.{LeftByHearing, settled_of, settled_at}

abbrev pub begun : Polling → ℕ → Begun
begun w number = record { polling = w; number = number }

-- Beginning: 38 of a board that is not kept in order, with nothing begun.
pub record BeginsPolling (rows : List Row) (minute : ℕ) (answer : Begun) : Type 0 where
  pub answers : answer ≡ if_in_order (board_of rows) (begun (beginning minute (board_of rows)) 0) (begun nothing_begun 38)

-- Drawing: 20 before all else, and then the state stays bit for bit and all else is 0. Only the samples' bytes change, and none where it refuses.
pub record DrawsPolling (w : Polling) (p : Pace) (out : List ℕ) (answer : LeftByDrawing) (after : List ℕ) : Type 0 where
  pub answers : answer
      ≡ pick (eqb (pace_fault p) 0)
      (drew (after_drawn p w (length (drawn_by p w (length out)))) (length (drawn_by p w (length out))) (mark (is_over w)) 0)
      (drew w 0 0 (pace_fault p))
  pub leaves : after
      ≡ pick (eqb (pace_fault p) 0) (drawn_by p w (length out) ++ drop (length (drawn_by p w (length out))) out) out

-- Hearing, from what the state means: a round that is over is left as it is; while it draws, nothing is taken.
unfoldable pub heard_by : Pace → (minute : ℕ) → Polling → List ℕ → LeftByHearing
heard_by p minute w samples =
    pick (is_over w) (settled_of w 0 0 0 1 0)
    (pick (eqb w.listening 0) (settled_of w 0 0 0 0 0) (settled_at p minute w (listen p w.lines w.passed samples)))

pub record HearsPolling (w : Polling) (p : Pace) (minute : ℕ) (samples : List ℕ) (answer : LeftByHearing) : Type 0 where
  pub answers : answer ≡ pick (eqb (pace_fault p) 0) (heard_by p minute (meant p w) samples) (settled_of w 0 0 0 0 (pace_fault p))
