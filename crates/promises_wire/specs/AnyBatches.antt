-- In any batches: a host that goes on, however it batches what is drawn and what is sensed, comes to the end of the round after so many turns at the latest; and where each
-- transmitter sends a reading in time after its poll, the polls say just these readings.
use Rattle.std.specs.Prelude.{◌≡◌, true, false, List, [], ◌∷◌, ◌++◌, map, ℕ, suc, ◌-◌, ◌*◌, ◌+◌, ◌^◌, ◌<◌, ◌≤◌, length}
use Rattle.frame.specs.declared.Reading.{Reading}
use Rattle.board.specs.declared.Row.{Row}
use Rattle.board.specs.Rows.{board_of}
use Rattle.polling.specs.declared.Begun.{Begun}
use Rattle.polling.specs.Drawing.{LeftByDrawing}
use Rattle.polling.specs.declared.Pace.{Pace}
use Rattle.polling.specs.declared.Polling.{Polling}
use Rattle.polling.specs.Settling.{LeftByHearing}
use Rattle.polling.specs.Pace.{bad_pace}
use Rattle.polling.specs.Beginning.{used_rows}
use Rattle.polling.specs.Meant.{is_over}
use Rattle.polling.specs.Calls.{BeginsPolling, DrawsPolling, HearsPolling}
use Rattle.promises_frame.specs.WrittenThenRead.{CanSay}
use Rattle.promises_polling.specs.Ends.{try_draws}
use Rattle.promises_wire.specs.Polls.{Poll}
use Rattle.promises_wire.specs.Wire.{samples_of, Sent}
use Rattle.promises_wire.specs.Running.{Stood, since_after, stood_by, Enrolled, RanSo}
use Rattle.promises_wire.specs.TankToDesk.{SaysSo}
use Rattle.promises_wire.specs.InTime.{InTime, SentBy, Listens}

-- A reading sent in time for each row, and polls that say what was sent.
pub data SentToAll (p : Pace) : List Row → List Sent → Type 0 where
  none_sent : SentToAll p [] []
  one_sent : {rows : List Row} {xs : List Sent} (row : Row) (x : Sent) → InTime p x → SentBy row.settings row.address x → SentToAll p rows xs
      → SentToAll p (row ∷ rows) (x ∷ xs)

pub data AllSay : List Sent → List Poll → Type 0 where
  none_says : AllSay [] []
  one_says : {xs : List Sent} {qs : List Poll} (x : Sent) (q : Poll) → SaysSo x q → AllSay xs qs → AllSay (x ∷ xs) (q ∷ qs)

-- Turns of a host that goes on: in each it lends room for a sample or more, to draw, and then a sample or more, to hear. What stands, and what has been sensed since the last
-- poll, is told as in `Running`.
pub data Turns (p : Pace) (from : Polling) : ℕ → List Stood → List ℕ → Polling → Type 0 where
  no_turn : Turns p from 0 [] [] from
  one_turn : {n : ℕ} {ys : List Stood} {since : List ℕ} {w : Polling} (out after : List ℕ) (d : LeftByDrawing) (minute : ℕ) (samples : List ℕ) (a : LeftByHearing)
      → Turns p from n ys since w → 1 ≤ length out → DrawsPolling w p out d after
      → 1 ≤ length samples → minute < 2 ^ 32 → HearsPolling d.polling p minute samples a
      → Turns p from (suc n) (ys ++ stood_by a minute samples since) (since_after a samples since) a.polling

-- What is lent while a reading is sent: with what has been sensed since the poll, a part of it; or all of it, and whatever comes behind.
pub data Sends (x : Sent) (since samples : List ℕ) : Type 0 where
  part : (rest : List ℕ) → since ++ samples ++ rest ≡ samples_of x.drawing → 1 ≤ length rest → Sends x since samples
  whole : (more : List ℕ) → since ++ samples ≡ samples_of x.drawing ++ more → Sends x since samples

-- The one after so many others.
pub data After {A : Type 0} : List A → ℕ → A → Type 0 where
  at-once : {x : A} {xs : List A} → After (x ∷ xs) 0 x
  one_later : {x y : A} {xs : List A} {i : ℕ} → After xs i x → After (y ∷ xs) (suc i) x

-- A transmitter sends a reading: in each turn in which the recorder listens to the one after so many others.
abbrev pub SendsInTurns : {p : Pace} {from : Polling} {n : ℕ} {ys : List Stood} {since : List ℕ} {w : Polling} → ℕ → Sent → Turns p from n ys since w → Type 0
SendsInTurns i x no_turn = 0 ≤ 0
SendsInTurns i x (one_turn {ys = ys} {since = since} out after d minute samples a t room draw some fits hear) =
    SendsInTurns i x t × (Listens d.polling → length ys ≡ i → Sends x since samples)

-- Each of them sends its own.
abbrev pub Answering : {p : Pace} {from : Polling} {n : ℕ} {ys : List Stood} {since : List ℕ} {w : Polling} → List Sent → Turns p from n ys since w → Type 0
Answering xs t = (i : ℕ) (x : Sent) → After xs i x → SendsInTurns i x t

-- A host's habit: the room that it lends in each turn, and the samples, each one more than this, and the minute.
pub record Habit : Type 0 where
  pub room : ℕ → ℕ
  pub batch : ℕ → ℕ
  pub minute : ℕ → ℕ
  pub fits : (turn : ℕ) → minute turn < 2 ^ 32

abbrev pub BySuch : {p : Pace} {from : Polling} {n : ℕ} {ys : List Stood} {since : List ℕ} {w : Polling} → Habit → Turns p from n ys since w → Type 0
BySuch h no_turn = 0 ≤ 0
BySuch h (one_turn {n = n} out after d minute samples a t room draw some fits hear) =
    BySuch h t × (length out ≡ suc (h.room n)) × (length samples ≡ suc (h.batch n)) × (minute ≡ h.minute n)

pub record Batched (p : Pace) (from : Polling) (xs : List Sent) (h : Habit) (n : ℕ) : Type 0 where
  pub stood : List Stood
  pub since : List ℕ
  pub end : Polling
  pub turns : Turns p from n stood since end
  pub answering : Answering xs turns
  pub by_such : BySuch h turns

-- A round run by such a habit to its end, whose polls say what was sent.
pub record AllSaid (p : Pace) (rows : List Row) (from : Polling) (xs : List Sent) (h : Habit) : Type 0 where
  pub many : ℕ
  pub run : Batched p from xs h many
  pub over : is_over run.end ≡ true
  pub ran : RanSo p rows run.stood run.end
  pub say : AllSay xs ran.polls

-- A reading for each row, which a reply of its transmitter can say.
pub data CanSayAll : List Row → List Reading → Type 0 where
  none_to_say : CanSayAll [] []
  one_to_say : {rows : List Row} {rs : List Reading} (row : Row) (r : Reading) → CanSay row.settings row.address r → CanSayAll rows rs
      → CanSayAll (row ∷ rows) (r ∷ rs)

-- Pulses so long, with so much idle before the first and between two of them, come in time at this pace: a reply has 56 bits at most.
pub record Suits (p : Pace) (quiet low still : ℕ) : Type 0 where
  pub least : p.least ≤ low
  pub most : low ≤ p.most
  pub some : 1 ≤ still
  pub short : still < p.gap
  pub begins : quiet < p.wait
  pub ends : quiet + 56 * (low + still) + p.gap ≤ p.longest

pub record InAnyBatches : Type 0 where
  -- Whatever is sensed: of each transmitter, `tries` tries, and of each of these no more turns than it draws and takes samples.
  pub ends : (p : Pace) → bad_pace p ≡ false → (from : Polling) (n : ℕ) (ys : List Stood) (since : List ℕ) (w : Polling) → Turns p from n ys since w
      → (from.round.count - from.at) * (p.tries * (try_draws p + p.longest)) < n → is_over w ≡ true
  -- Where a transmitter sends a reading in time, its poll says that reading, whatever the others do.
  pub said : (p : Pace) → bad_pace p ≡ false → (rows : List Row) (minute : ℕ) (b : Begun) → BeginsPolling rows minute b → b.number ≡ 0
      → Enrolled (used_rows (board_of rows)) → (i : ℕ) (row : Row) → After (used_rows (board_of rows)) i row
      → (x : Sent) → InTime p x → SentBy row.settings row.address x
      → (n : ℕ) (ys : List Stood) (since : List ℕ) (w : Polling) (t : Turns p b.polling n ys since w) → SendsInTurns i x t
      → (ran : RanSo p rows ys w) (q : Poll) → After ran.polls i q → SaysSo x q
  -- Where each of them does, all polls of a round that is over say what was sent.
  pub say : (p : Pace) → bad_pace p ≡ false → (rows : List Row) (minute : ℕ) (b : Begun) → BeginsPolling rows minute b → b.number ≡ 0
      → (xs : List Sent) → SentToAll p (used_rows (board_of rows)) xs
      → (n : ℕ) (ys : List Stood) (since : List ℕ) (w : Polling) (t : Turns p b.polling n ys since w) → Answering xs t → is_over w ≡ true
      → (ran : RanSo p rows ys w) → AllSay xs ran.polls
  -- It can happen: by any habit, with readings sent in time, and so with any readings that can be said, at every pace that leaves them time.
  pub sent : (p : Pace) → bad_pace p ≡ false → (rows : List Row) (minute : ℕ) (b : Begun) → BeginsPolling rows minute b → b.number ≡ 0
      → (xs : List Sent) → SentToAll p (used_rows (board_of rows)) xs → (h : Habit) → AllSaid p rows b.polling xs h
  pub readings : (p : Pace) → bad_pace p ≡ false → (rows : List Row) (minute : ℕ) (b : Begun) → BeginsPolling rows minute b → b.number ≡ 0
      → (rs : List Reading) → CanSayAll (used_rows (board_of rows)) rs → (quiet low still : ℕ) → Suits p quiet low still → (h : Habit)
      → (xs : List Sent) × (map (λ x. x.reading) xs ≡ rs) × AllSaid p rows b.polling xs h
