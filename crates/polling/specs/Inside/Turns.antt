-- How the code goes about a lent state: it takes out the one turn, works on that by value, and puts it back. The other replies are never looked at.
use Rattle.std.specs.Prelude.{◌≡◌, Bool, List, [], ℕ, ◌+◌, ltb, get_or}
use Rattle.frame.specs.Pick.{pick}
use Rattle.frame.specs.Line.{mark}
use Rattle.lines.specs.declared.SoFar.{SoFar}
use Rattle.lines.specs.SoFar.{rest_state}
use Rattle.round.specs.declared.Polled.{Polled}
use Rattle.polling.specs.declared.Pace.{Pace}
use Rattle.polling.specs.declared.Polling.{Polling}
use Rattle.polling.specs.declared.Drew.{Drew}
use Rattle.polling.specs.declared.Settled.{Settled}
use Rattle.polling.specs.declared.turns.Turn.{Turn}
use Rattle.polling.specs.declared.drawing_out.Driven.{Driven}
use Rattle.polling.specs.declared.settling.Outcome.{Outcome}
use Rattle.polling.specs.declared.listening.Told.{Told}
use Rattle.polling.specs.Beginning.{no_entry}
use Rattle.polling.specs.Meant.{is_over, turn_by, meant}
use Rattle.polling.specs.Drawing.{LeftByDrawing, drew_with}
use Rattle.polling.specs.Listening.{Listened}
use Rattle.polling.specs.Settling.{round_with, LeftByHearing, settled_with, settled_at}
use Rattle.polling.specs.Calls.{DrawsPolling, HearsPolling}
use Rattle.polling.specs.Inside.Ears.{number_in, replied_by}

-- The place of the entry that is taken out. Where the turn is at no entry at all it is the first, which then stays.
abbrev pub place_of : ℕ → ℕ
place_of at = pick (ltb at 30) at 0

-- The turn that is taken out of a state.
abbrev pub turn_in : Polling → Turn
turn_in w =
    record {
      entry = get_or w.round.replies (place_of w.at) no_entry;
      count = w.round.count;
      lines = w.lines;
      passed = w.passed;
      at = w.at;
      tried = w.tried;
      listening = w.listening;
    }

-- The state that a turn is taken out of, if these are its replies.
abbrev pub state_of : List Polled → Turn → Polling
state_of rs t =
    record {
      round = record { replies = rs; count = t.count };
      lines = t.lines;
      passed = t.passed;
      at = t.at;
      tried = t.tried;
      listening = t.listening;
    }

-- The state after another turn is put back, its entry at this place.
abbrev pub put_back : List Polled → ℕ → Turn → Turn → Polling
put_back rs place t next =
    record {
      round = round_with (record { replies = rs; count = t.count }) place next.entry;
      lines = next.lines;
      passed = next.passed;
      at = next.at;
      tried = next.tried;
      listening = next.listening;
    }

abbrev pub over_by : Turn → Bool
over_by t = is_over (state_of [] t)

-- The same turn, so far on.
abbrev pub turn_as : Turn → SoFar → (passed tried listening : ℕ) → Turn
turn_as t heard passed tried listening =
    record { entry = t.entry; count = t.count; lines = heard; passed = passed; at = t.at; tried = tried; listening = listening }

-- The entry is the one of these replies whose turn it is.
abbrev pub Of : List Polled → Turn → Type 0
Of rs t = get_or rs t.at no_entry ≡ t.entry

-- It is what the turn means, whatever the other replies are.
pub record MeansTurn (p : Pace) (t next : Turn) : Type 0 where
  pub on : (rs : List Polled) → Of rs t → state_of rs next ≡ meant p (state_of rs t)
  pub same : next ≡ turn_as t next.lines next.passed t.tried next.listening

abbrev pub driven : SoFar → (passed listening : ℕ) → Drew → Driven
driven heard passed listening told = record { lines = heard; passed = passed; listening = listening; told = told }

abbrev pub told : (count over number : ℕ) → Drew
told count over number = record { count = count; over = over; number = number }

abbrev pub left_by_drawing : List Polled → Turn → Driven → LeftByDrawing
left_by_drawing rs t d = drew_with (turn_by (state_of rs t) d.lines d.passed t.tried d.listening) d.told

-- It is drawn so, whatever the other replies are.
pub record DrawsTurn (t : Turn) (p : Pace) (out : List ℕ) (d : Driven) (after : List ℕ) : Type 0 where
  pub on : (rs : List Polled) → get_or rs (place_of t.at) no_entry ≡ t.entry → DrawsPolling (state_of rs t) p out (left_by_drawing rs t d) after

abbrev pub settled : (taken reply answered over number : ℕ) → Settled
settled taken reply answered over number = record { taken = taken; reply = reply; answered = answered; over = over; number = number }

abbrev pub outcome : Turn → Settled → Outcome
outcome next told = record { turn = next; told = told }

abbrev pub left_by_hearing : List Polled → ℕ → Turn → Outcome → LeftByHearing
left_by_hearing rs place t o = settled_with (put_back rs place t o.turn) o.told

-- The reply stands, and the next transmitter's turn comes.
abbrev pub next_turn : (minute : ℕ) → Told → Turn → Turn
next_turn minute told t =
    record { entry = replied_by minute told t.entry; count = t.count; lines = rest_state; passed = 0; at = t.at + 1; tried = 0; listening = 0 }

abbrev pub standing : (minute : ℕ) → Told → (taken : ℕ) → Turn → Outcome
standing minute told taken t =
    outcome (next_turn minute told t) (settled taken t.at 1 (mark (over_by (next_turn minute told t))) (number_in told))

-- It is settled so, whatever the other replies are.
pub record SettlesTurn (p : Pace) (minute : ℕ) (t : Turn) (l : Listened) (o : Outcome) : Type 0 where
  pub on : (rs : List Polled) → Of rs t → left_by_hearing rs t.at t o ≡ settled_at p minute (state_of rs t) l

-- It is heard so, whatever the other replies are.
pub record HearsTurn (t : Turn) (p : Pace) (minute : ℕ) (samples : List ℕ) (o : Outcome) : Type 0 where
  pub on : (rs : List Polled) → get_or rs (place_of t.at) no_entry ≡ t.entry
      → HearsPolling (state_of rs t) p minute samples (left_by_hearing rs (place_of t.at) t o)
