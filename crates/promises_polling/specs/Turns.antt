-- In turn: what is drawn from the beginning of a round to its end is, for each row in use, in rising address order, one to `tries` times its delay and then its poll; and
-- every drawn poll, heard and read again, is of that address.
use Rattle.std.specs.Prelude.{◌≡◌, false, List, [], ◌∷◌, ◌++◌, ℕ, zero, suc, ◌+◌, ◌*◌, ◌<◌, ◌≤◌, length, take, replicate}
use Rattle.frame.specs.Pick.{pick}
use Rattle.frame.specs.Poll.{ReadsPoll}
use Rattle.board.specs.declared.Row.{Row}
use Rattle.board.specs.Row.{is_in_use}
use Rattle.board.specs.Rows.{board_of}
use Rattle.lines.specs.declared.SoFar.{SoFar}
use Rattle.lines.specs.declared.LinesTold.{LinesTold}
use Rattle.lines.specs.Timing.{Timing, bad_timing}
use Rattle.lines.specs.SoFar.{rest_state}
use Rattle.lines.specs.Calls.{HearsLines}
use Rattle.polling.specs.declared.Begun.{Begun}
use Rattle.polling.specs.Drawing.{LeftByDrawing}
use Rattle.polling.specs.declared.Pace.{Pace}
use Rattle.polling.specs.declared.Polling.{Polling}
use Rattle.polling.specs.Pace.{bad_pace}
use Rattle.polling.specs.Calls.{BeginsPolling, DrawsPolling}
use Rattle.promises_frame.specs.Calls.{PollLeft}
use Rattle.promises_lines.specs.History.{tellings}
use Rattle.promises_lines.specs.History as lines
use Rattle.promises_lines.specs.Form.{bytes_in}
use Rattle.promises_drawing.specs.Sending.{Sending}
use Rattle.promises_polling.specs.History.{any, Verdict, History}
use Rattle.std.specs.Prelude.{Result, Ok}
use Rattle.frame.specs.declared.faults.Fault.{Fault}
use Rattle.frame.specs.declared.Poll.{Poll}

-- The addresses of the rows in use, as they stand.
unfoldable pub addresses_in : List Row → List ℕ
addresses_in [] = []
addresses_in (row ∷ rows) = pick (is_in_use row) (row.address ∷ addresses_in rows) (addresses_in rows)

abbrev pub RisingFrom : ℕ → List ℕ → Type 0
RisingFrom least [] = 0 ≤ least
RisingFrom least (a ∷ more) = (least ≤ a) × RisingFrom (suc a) more

abbrev pub UpTo999 : List ℕ → Type 0
UpTo999 [] = 0 ≤ 0
UpTo999 (a ∷ more) = (a ≤ 999) × UpTo999 more

-- What the calls of request 15 put down of the 2 bytes that `write_poll` leaves of an address, neither raise nor reset.
pub record PollSamples (p : Pace) (address : ℕ) (sent : List ℕ) : Type 0 where
  pub bytes : List ℕ
  pub up_to_999 : address ≤ 999
  pub poll : PollLeft (record { address = address; raise = false; reset = false }) bytes
  pub drawn : Sending p.low p.still 16 bytes sent
  pub to_the_end : length sent ≡ 16 * (p.low + p.still)

unfoldable pub repeated : ℕ → List ℕ → List ℕ
repeated zero samples = []
repeated (suc n) samples = samples ++ repeated n samples

-- For each address in turn, one to `tries` times, its delay and then its poll.
pub data InTurn (p : Pace) : List ℕ → List ℕ → Type 0 where
  no_more : InTurn p [] []
  polled : {addresses samples : List ℕ} (address times : ℕ) (sent : List ℕ) → 1 ≤ times → times ≤ p.tries → PollSamples p address sent
      → InTurn p addresses samples → InTurn p (address ∷ addresses) (repeated times (replicate p.delay 0 ++ sent) ++ samples)

pub record PollsInTurn : Type 0 where
  -- From begin to over: a call that draws says that it is over.
  pub in-turn : (rows : List Row) (minute : ℕ) (b : Begun) → BeginsPolling rows minute b → b.number ≡ 0 → UpTo999 (addresses_in (board_of rows))
      → (p : Pace) → bad_pace p ≡ false → (drawn taken : List ℕ) (told : List Verdict) (end : Polling) → History p any b.polling drawn taken told end
      → (out after : List ℕ) (d : LeftByDrawing) → DrawsPolling end p out d after → d.over ≡ 1
      → InTurn p (addresses_in (board_of rows)) drawn
  pub rising : (rows : List Row) (minute : ℕ) (b : Begun) → BeginsPolling rows minute b → b.number ≡ 0 → RisingFrom 0 (addresses_in (board_of rows))
  -- By any timing that takes the pulses and does not take the idle between them for a gap.
  pub read_again : (p : Pace) (address : ℕ) (sent : List ℕ) → PollSamples p address sent
      → (t : Timing) → bad_timing t ≡ false → t.least ≤ p.low → p.low ≤ t.most → 1 ≤ p.still → p.still < t.gap
      → (earlier batch rest : List ℕ) (s : SoFar) (a : LinesTold) → lines.History t rest_state earlier [] s
      → HearsLines s t.least t.most t.gap batch a → (tellings a ≡ [] → ⊥)
      → earlier ++ take a.taken batch ++ rest ≡ sent ++ replicate t.gap 0
      → (got : Result Poll Fault) → ReadsPoll (bytes_in a) got → got ≡ Ok (record { address = address; raise = false; reset = false })
