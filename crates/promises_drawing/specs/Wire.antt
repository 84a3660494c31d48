-- A poll on the wire: the 2 bytes of a poll, drawn and heard again, read as a poll of that address with that raise and reset.
use Rattle.std.specs.Prelude.{◌≡◌, List, [], ◌++◌, ℕ, ◌≤◌, take, replicate}
use Rattle.frame.specs.declared.Poll.{Poll}
use Rattle.frame.specs.Kinds.{is_set}
use Rattle.frame.specs.Poll.{ReadsPoll}
use Rattle.board.specs.declared.Row.{Row}
use Rattle.board.specs.Calls.{PollsRow}
use Rattle.lines.specs.declared.SoFar.{SoFar}
use Rattle.lines.specs.declared.LinesTold.{LinesTold}
use Rattle.lines.specs.Timing.{Timing}
use Rattle.lines.specs.SoFar.{rest_state}
use Rattle.lines.specs.Calls.{HearsLines}
use Rattle.promises_frame.specs.Calls.{PollLeft}
use Rattle.promises_lines.specs.History.{tellings, History}
use Rattle.promises_lines.specs.Form.{bytes_in}
use Rattle.promises_drawing.specs.Heard.{Spoken}
use Rattle.std.specs.Prelude.{Result, Ok}
use Rattle.frame.specs.declared.faults.Fault.{Fault}

-- The 2 bytes that `write_poll` left first in an output that was long enough, or that `sisal_board_poll` left there where it answered 0.
pub data PollBytes (p : Poll) (bytes : List ℕ) : Type 0 where
  written : p.address ≤ 999 → PollLeft p bytes → PollBytes p bytes
  of_a_row : (rows : List Row) (raise reset : ℕ) (out after : List ℕ) → PollsRow rows p.address raise reset out 0 after
      → p.raise ≡ is_set raise → p.reset ≡ is_set reset → bytes ≡ take 2 after → PollBytes p bytes

pub record PollOnTheWire : Type 0 where
  pub read : (p : Poll) (bytes : List ℕ) → PollBytes p bytes → (t : Timing) (low still : ℕ) (sent : List ℕ) → Spoken t low still 16 bytes sent
      → (earlier batch rest : List ℕ) (s : SoFar) (a : LinesTold) → History t rest_state earlier [] s
      → HearsLines s t.least t.most t.gap batch a → (tellings a ≡ [] → ⊥)
      → earlier ++ take a.taken batch ++ rest ≡ sent ++ replicate t.gap 0
      → (got : Result Poll Fault) → ReadsPoll (bytes_in a) got → got ≡ Ok p
