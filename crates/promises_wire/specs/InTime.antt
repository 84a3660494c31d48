-- Said in time, to a recorder that runs its round by the calls of request 16: a reading that comes after the poll soon enough, and is over soon enough, is heard to its end
-- whatever the batches are, and is what stands.
use Rattle.std.specs.Prelude.{◌≡◌, false, List, ◌++◌, ℕ, ◌^◌, ◌<◌, ◌≤◌, length, get_or, take}
use Rattle.frame.specs.Reply.{count_for}
use Rattle.sheet.specs.Record.{entry_of}
use Rattle.board.specs.declared.Row.{Row}
use Rattle.board.specs.Rows.{board_of}
use Rattle.round.specs.Replies.{entry_in}
use Rattle.polling.specs.declared.Begun.{Begun}
use Rattle.polling.specs.declared.Pace.{Pace}
use Rattle.polling.specs.declared.Polling.{Polling}
use Rattle.polling.specs.Settling.{LeftByHearing}
use Rattle.polling.specs.Pace.{timing_of, bad_pace}
use Rattle.polling.specs.Beginning.{no_entry, used_rows}
use Rattle.polling.specs.Meant.{is_over, turn_of}
use Rattle.polling.specs.Calls.{BeginsPolling, HearsPolling}
use Rattle.promises_wire.specs.Polls.{Poll}
use Rattle.promises_wire.specs.Wire.{samples_of, Sent}
use Rattle.promises_wire.specs.Running.{Stood, Running, Enrolled, PollOf}
use Rattle.promises_wire.specs.TankToDesk.{SaysSo}

-- Sent in time: drawn by the numbers by which the recorder hears, its first low sample among the first `wait` after the poll, and the gap behind its last pulse at an end
-- within `longest`.
pub record InTime (p : Pace) (x : Sent) : Type 0 where
  pub timing : x.asked.timing ≡ timing_of p
  pub begins : x.drawing.quiet < p.wait
  pub ends : length (samples_of x.drawing) ≤ p.longest

-- By a transmitter of these settings, at this address.
abbrev pub SentBy : (settings address : ℕ) → Sent → Type 0
SentBy settings address x = (x.asked.settings ≡ settings) × (x.asked.address ≡ address)

-- A round on its way: begun from a board in order, with rows as an enrolment takes them, and run by a pace that is not refused.
pub record OnItsWay (p : Pace) (rows : List Row) (xs : List Stood) (since : List ℕ) (w : Polling) : Type 0 where
  pub enrolled : Enrolled (used_rows (board_of rows))
  pub minute : ℕ
  pub begun : Begun
  pub begins : BeginsPolling rows minute begun
  pub accepted : begun.number ≡ 0
  pub paced : bad_pace p ≡ false
  pub calls : Running p begun.polling xs since w

-- It listens.
abbrev pub Listens : Polling → Type 0
Listens w = (is_over w ≡ false) × (w.listening ≡ 0 → ⊥)

-- A call that hears a part of it takes all of that, settles nothing, and goes on listening.
pub record GoesOn (samples : List ℕ) (a : LeftByHearing) : Type 0 where
  pub taken : a.taken ≡ length samples
  pub answered : a.answered ≡ 0
  pub listens : Listens a.polling

-- The call that hears the last of it settles the try by a message, with just the samples that were sent; and the reply that stands is the reading's bits.
pub record StandsSo (w : Polling) (since samples : List ℕ) (x : Sent) (minute : ℕ) (a : LeftByHearing) : Type 0 where
  pub answered : a.answered ≡ 1
  pub number : a.number ≡ 0
  pub reply : a.reply ≡ w.at
  pub taken : since ++ take a.taken samples ≡ samples_of x.drawing
  pub entry : entry_in (get_or a.polling.round.replies w.at no_entry)
      ≡ entry_of (turn_of w).settings minute (turn_of w).address (count_for x.reading) x.bytes

pub record SaidInTime : Type 0 where
  -- While some of it is still to come.
  pub goes_on : (p : Pace) (rows : List Row) (xs : List Stood) (since : List ℕ) (w : Polling) → OnItsWay p rows xs since w → Listens w
      → (x : Sent) → InTime p x → (samples rest : List ℕ) → since ++ samples ++ rest ≡ samples_of x.drawing → 1 ≤ length rest
      → (minute : ℕ) (a : LeftByHearing) → HearsPolling w p minute samples a
      → GoesOn samples a
  -- When all of it is there, and whatever comes behind it.
  pub stands : (p : Pace) (rows : List Row) (xs : List Stood) (since : List ℕ) (w : Polling) → OnItsWay p rows xs since w → Listens w
      → (x : Sent) → InTime p x → SentBy (turn_of w).settings (turn_of w).address x
      → (samples more : List ℕ) → since ++ samples ≡ samples_of x.drawing ++ more
      → (minute : ℕ) (a : LeftByHearing) → minute < 2 ^ 32 → HearsPolling w p minute samples a
      → StandsSo w since samples x minute a
  -- And the poll of the row says that very reading, in listing, page and board.
  pub says : (p : Pace) (row : Row) (s : Stood) (q : Poll) → PollOf p row s q → (x : Sent) → InTime p x → SentBy row.settings row.address x
      → s.samples ≡ samples_of x.drawing
      → SaysSo x q
