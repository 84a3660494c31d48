-- With the same pace and minute, any batching of what is drawn, and of the samples sensed after each poll, gives the same samples, the same answers, the same
-- round and the same end state.
use Rattle.std.specs.Prelude.{◌≡◌, false, List, ℕ, ◌<◌, ◌≤◌, length, get_or}
use Rattle.polling.specs.declared.Pace.{Pace}
use Rattle.polling.specs.declared.Polling.{Polling}
use Rattle.polling.specs.Pace.{bad_pace}
use Rattle.polling.specs.Beginning.{no_entry}
use Rattle.polling.specs.Meant.{meant}
use Rattle.promises_polling.specs.History.{Verdict, always, History}

-- Each transmitter of the round has a poll.
abbrev pub AllPolled : Polling → Type 0
AllPolled w = (i : ℕ) → i < w.round.count → (get_or w.round.replies i no_entry).address ≤ 999

pub record PollingBatches : Type 0 where
  -- From any state whatever. Two histories that have drawn as many samples and taken the same ones have drawn the same, were told the same, and have the same
  -- round; what the two ends mean to a later call is the same.
  pub from_any : (p : Pace) (minute : ℕ) (from : Polling) → bad_pace p ≡ false
      → (drawn other taken : List ℕ) (told answers : List Verdict) (end last : Polling)
      → History p (always minute) from drawn taken told end → History p (always minute) from other taken answers last → length drawn ≡ length other
      → (drawn ≡ other) × (told ≡ answers) × (end.round ≡ last.round) × (meant p end ≡ meant p last)
  -- From a state that means itself, as the beginning of a round does, the end states are the same, bit for bit.
  pub same : (p : Pace) (minute : ℕ) (from : Polling) → bad_pace p ≡ false → meant p from ≡ from → AllPolled from
      → (drawn other taken : List ℕ) (told answers : List Verdict) (end last : Polling)
      → History p (always minute) from drawn taken told end → History p (always minute) from other taken answers last → length drawn ≡ length other
      → end ≡ last
