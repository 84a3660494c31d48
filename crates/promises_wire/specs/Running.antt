-- A morning that the recorder runs itself, by the calls of request 16: begun from a board in order, drawn and heard in any batches, by one pace.
use Rattle.std.specs.Prelude.{◌≡◌, true, false, List, [], ◌∷◌, ◌++◌, map, ℕ, ◌^◌, ◌<◌, ◌≤◌, eqb, take}
use Rattle.frame.specs.Pick.{pick}
use Rattle.board.specs.declared.Row.{Row}
use Rattle.board.specs.Rows.{board_of}
use Rattle.summary.specs.declared.Summary.{Summary}
use Rattle.round.specs.declared.Round.{Round}
use Rattle.round.specs.declared.Rounded.{Rounded}
use Rattle.round.specs.declared.RoundedPage.{RoundedPage}
use Rattle.round.specs.Replies.{entry_in}
use Rattle.round.specs.Saving.{Page, none, kept}
use Rattle.round.specs.Calls.{most_replies, SavesRound, SavesRoundWith}
use Rattle.polling.specs.declared.Begun.{Begun}
use Rattle.polling.specs.Drawing.{LeftByDrawing}
use Rattle.polling.specs.declared.Pace.{Pace}
use Rattle.polling.specs.declared.Polling.{Polling}
use Rattle.polling.specs.Settling.{LeftByHearing}
use Rattle.polling.specs.Pace.{timing_of, bad_pace}
use Rattle.polling.specs.Beginning.{used_rows}
use Rattle.polling.specs.Meant.{is_over}
use Rattle.polling.specs.Calls.{BeginsPolling, DrawsPolling, HearsPolling}
use Rattle.promises_wire.specs.Polls.{Poll}
use Rattle.promises_wire.specs.Expected.{Morning}
use Rattle.promises_wire.specs.Month.{Replies, morning, Month}

-- A reply that stands: the minute of the call that settled it, and all that was sensed after its transmitter's last poll.
pub record Stood : Type 0 where
  pub minute : ℕ
  pub samples : List ℕ

-- What has been sensed since the poll, after one call more: nothing where the try is settled.
abbrev pub since_after : LeftByHearing → List ℕ → List ℕ → List ℕ
since_after a samples since = pick (eqb a.polling.listening 0) [] (since ++ take a.taken samples)

abbrev pub stood_by : LeftByHearing → ℕ → List ℕ → List ℕ → List Stood
stood_by a minute samples since = pick (eqb a.answered 0) [] (record { minute = minute; samples = since ++ take a.taken samples } ∷ [])

-- Calls one after another, in whatever order and batches the host has, each with what the last one left: the replies that stand, what has been sensed since the last
-- poll, and the state.
pub data Running (p : Pace) (from : Polling) : List Stood → List ℕ → Polling → Type 0 where
  just_begun : Running p from [] [] from
  drew : {xs : List Stood} {since : List ℕ} {w : Polling} (out after : List ℕ) (answer : LeftByDrawing) → Running p from xs since w → DrawsPolling w p out answer after
      → Running p from xs since answer.polling
  heard : {xs : List Stood} {since : List ℕ} {w : Polling} (minute : ℕ) (samples : List ℕ) (answer : LeftByHearing) → minute < 2 ^ 32 → Running p from xs since w
      → HearsPolling w p minute samples answer
      → Running p from (xs ++ stood_by answer minute samples since) (since_after answer samples since) answer.polling

-- Rows with settings and addresses that an enrolment takes.
abbrev pub Enrolled : List Row → Type 0
Enrolled [] = 0 ≤ 0
Enrolled (row ∷ rows) = (row.settings ≤ 15) × (row.address ≤ 999) × Enrolled rows

-- The poll of a row: asked by its settings and address, at that minute, with just what was sensed after it.
pub record PollOf (p : Pace) (row : Row) (x : Stood) (q : Poll) : Type 0 where
  pub timing : q.asked.timing ≡ timing_of p
  pub settings : q.asked.settings ≡ row.settings
  pub address : q.asked.address ≡ row.address
  pub minute : q.asked.minute ≡ x.minute
  pub samples : q.sensed.samples ≡ x.samples

pub data InStep (p : Pace) : List Row → List Stood → List Poll → Type 0 where
  none_in_step : InStep p [] [] []
  one_in_step : {rows : List Row} {xs : List Stood} {qs : List Poll} (row : Row) (x : Stood) (q : Poll) → PollOf p row x q → InStep p rows xs qs
      → InStep p (row ∷ rows) (x ∷ xs) (q ∷ qs)

-- What a round has come to: the rows in use, in order, up to the one whose turn it is, each with its poll; the replies so far are those of these polls. When it is over, all
-- rows have had their turn, and all its replies are such.
pub record RanSo (p : Pace) (rows : List Row) (xs : List Stood) (w : Polling) : Type 0 where
  pub done : List Row
  pub left : List Row
  pub used : used_rows (board_of rows) ≡ done ++ left
  pub polls : List Poll
  pub in_step : InStep p done xs polls
  pub replies : Replies polls (map entry_in (take w.at w.round.replies))
  pub few : w.at ≤ most_replies
  pub over : is_over w ≡ true → (left ≡ []) × (w.round.count ≡ w.at)

-- The round that is saved: its replies up to the one whose turn it is. A round that is over is this itself.
abbrev pub Ended : Polling → Round → Type 0
Ended w r = (r.replies ≡ w.round.replies) × (r.count ≡ w.at)

pub record RunByTheRecorder : Type 0 where
  -- Whatever the lines do and whatever the batches are, at every moment of a round that was begun from a board with rows as an enrolment takes them.
  pub ran : (rows : List Row) (minute : ℕ) (b : Begun) → BeginsPolling rows minute b → b.number ≡ 0 → Enrolled (used_rows (board_of rows))
      → (p : Pace) → bad_pace p ≡ false → (xs : List Stood) (since : List ℕ) (w : Polling) → Running p b.polling xs since w
      → RanSo p rows xs w
  -- Saved, with a summary or without, it is one more morning of the month.
  pub saved : (n : ℕ) (ms : List Morning) (sheet : List ℕ) (page : Page) → Month n ms sheet page
      → (p : Pace) (rows : List Row) (xs : List Stood) (w : Polling) (ran : RanSo p rows xs w) (r : Round) → Ended w r
      → (allowance : ℕ) (answer : Rounded) (after : List ℕ) → SavesRound sheet r allowance answer after
      → Month n (ms ++ morning ran.polls allowance ∷ []) after none
  pub saved_with : (n : ℕ) (ms : List Morning) (sheet : List ℕ) (page : Summary) → Month n ms sheet (kept page)
      → (p : Pace) (rows : List Row) (xs : List Stood) (w : Polling) (ran : RanSo p rows xs w) (r : Round) → Ended w r
      → (allowance : ℕ) (answer : RoundedPage) (after : List ℕ) → SavesRoundWith sheet page r allowance answer after
      → Month n (ms ++ morning ran.polls allowance ∷ []) after (kept answer.summary)
