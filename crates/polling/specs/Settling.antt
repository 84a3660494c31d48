-- Our request 16, obligations 5 and 6: a try that is settled is asked again, or its reply stands and the next transmitter's turn comes.
use Rattle.std.specs.Prelude.{Bool, true, false, ◌||◌, ℕ, ◌+◌, leb, set}
use Rattle.frame.specs.Pick.{pick}
use Rattle.frame.specs.Line.{mark}
use Rattle.lines.specs.SoFar.{rest_state}
use Rattle.lines.specs.Hearing.{MessageTold, nothing, message, spoiled, number_told, count_told, bytes_told}
use Rattle.round.specs.declared.Polled.{Polled}
use Rattle.round.specs.declared.Round.{Round}
use Rattle.polling.specs.declared.Pace.{Pace}
use Rattle.polling.specs.declared.Polling.{Polling}
use Rattle.polling.specs.declared.Settled.{Settled}
use Rattle.polling.specs.Beginning.{polled}
use Rattle.polling.specs.Meant.{is_over, turn_of, turn_by, listens}
use Rattle.polling.specs.Listening.{Listened, still_going, settled_by}

abbrev pub is_message : MessageTold → Bool
is_message nothing = false
is_message (message count bits) = true
is_message (spoiled number) = false

-- This is the last poll of the transmitter: `tried` counts those that gave no message before it.
abbrev pub is_last : Pace → Polling → Bool
is_last p w = leb p.tries (w.tried + 1)

-- After silence, 21, 22 or giving up the same transmitter is polled again, up to `tries` polls in all. A message is never asked again for, faulty or not.
abbrev pub is_answered : Pace → Polling → MessageTold → Bool
is_answered p w told = is_message told || is_last p w

-- Polled again, from its delay on.
abbrev pub asked_again : Polling → Polling
asked_again w = turn_by w rest_state 0 (w.tried + 1) 0

-- The reply of a transmitter: the message's bits, or 0 bits, and the minute; its address, settings and `unused` stay.
abbrev pub replied : (minute : ℕ) → MessageTold → Polled → Polled
replied minute told r = polled minute r.address r.settings r.unused (count_told told) (bytes_told told)

abbrev pub round_with : Round → ℕ → Polled → Round
round_with r at entry = record { replies = set r.replies at entry; count = r.count }

-- It stands in the round, and the next transmitter's turn comes.
abbrev pub answered_with : (minute : ℕ) → MessageTold → Polling → Polling
answered_with minute told w =
    record {
      round = round_with w.round w.at (replied minute told (turn_of w));
      lines = rest_state;
      passed = 0;
      at = w.at + 1;
      tried = 0;
      listening = 0;
    }

-- What hearing leaves and tells: the lent state after it, and its answer.
pub record LeftByHearing : Type 0 where
  pub polling : Polling
  pub taken : ℕ
  pub reply : ℕ
  pub answered : ℕ
  pub over : ℕ
  pub number : ℕ

abbrev pub settled_of : Polling → (taken reply answered over number : ℕ) → LeftByHearing
settled_of w taken reply answered over number =
    record { polling = w; taken = taken; reply = reply; answered = answered; over = over; number = number }

abbrev pub settled_with : Polling → Settled → LeftByHearing
settled_with w told = settled_of w told.taken told.reply told.answered told.over told.number

-- What a call tells that listened: nothing where the try goes on; else which reply it was, whether it now stands, and by what number.
unfoldable pub settled_at : Pace → (minute : ℕ) → Polling → Listened → LeftByHearing
settled_at p minute w (still_going left taken) = settled_of (listens w left (w.passed + taken)) taken 0 0 0 0
settled_at p minute w (settled_by told taken) =
    pick (is_answered p w told) (settled_of (answered_with minute told w) taken w.at 1 (mark (is_over (answered_with minute told w))) (number_told told))
    (settled_of (asked_again w) taken w.at 0 0 (number_told told))
