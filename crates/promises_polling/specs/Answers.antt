-- Answers by runs: what a try tells, and what its reply then has, are what the runs of the samples sensed after its poll tell, within `wait` and `longest`. The runs are
-- those of the paper's words for the lines (`promises_lines/specs/Runs.antt`), apart from how a sample is heard.
use Rattle.std.specs.Prelude.{◌≡◌, true, false, List, [], ◌∷◌, ◌++◌, map, ℕ, ◌<◌, ◌≤◌, length, take}
use Rattle.frame.specs.Pick.{pick}
use Rattle.lines.specs.Sample.{sample_of}
use Rattle.lines.specs.SoFar.{rest_state}
use Rattle.polling.specs.Drawing.{LeftByDrawing}
use Rattle.polling.specs.declared.Pace.{Pace}
use Rattle.polling.specs.declared.Polling.{Polling}
use Rattle.polling.specs.Settling.{LeftByHearing}
use Rattle.polling.specs.Pace.{timing_of, bad_pace}
use Rattle.polling.specs.Meant.{is_over}
use Rattle.polling.specs.Calls.{DrawsPolling, HearsPolling}
use Rattle.promises_lines.specs.History.{bits_of}
use Rattle.promises_lines.specs.Runs.{Run, InRuns, spelled, all_idle, foreign_in, by_runs}
use Rattle.promises_polling.specs.History.{any, Verdict, verdicts, History}
use Rattle.promises_polling.specs.Fit.{reply_at}

-- How samples settle a try, by their runs: a message or a spoiled one has closed; or all is idle, and `wait` samples have come: silence; or nothing has closed, and
-- `longest` have come: given up, by 22 where a byte above 3 came.
pub data BySamples (p : Pace) (samples : List ℕ) (runs : List Run) : (number : ℕ) (bits : List ℕ) → Type 0 where
  closed : {number : ℕ} {bits : List ℕ} → by_runs (timing_of p) [] runs ≡ record { number = number; bits = bits } ∷ [] → BySamples p samples runs number bits
  silent : by_runs (timing_of p) [] runs ≡ [] → all_idle runs ≡ true → length samples ≡ p.wait → BySamples p samples runs 0 []
  given-up : by_runs (timing_of p) [] runs ≡ [] → all_idle runs ≡ false → length samples ≡ p.longest
      → BySamples p samples runs (pick (foreign_in runs) 22 21) []

-- Samples that settle nothing yet: nothing has closed, fewer than `longest` have come, and where `wait` have come, one of them was not idle.
pub record NotYet (p : Pace) (samples : List ℕ) (runs : List Run) : Type 0 where
  pub none_closed : by_runs (timing_of p) [] runs ≡ []
  pub in-time : length samples < p.longest
  pub not_silent : p.wait ≤ length samples → all_idle runs ≡ false

-- The samples up to the one that settles a try, and no sooner.
pub record Settles (p : Pace) (samples : List ℕ) (number : ℕ) (bits : List ℕ) : Type 0 where
  pub last : (runs : List Run) → InRuns runs → map sample_of samples ≡ spelled runs → BySamples p samples runs number bits
  pub sooner : (k : ℕ) → k < length samples → (runs : List Run) → InRuns runs → map sample_of (take k samples) ≡ spelled runs → NotYet p (take k samples) runs

-- What stands of a try that has an answer, or no more tries: the bits, none where it gave no message, and the minute of the call.
pub record Stands (minute : ℕ) (bits : List ℕ) (after : Polling) (reply : ℕ) : Type 0 where
  pub many : (reply_at after reply).count ≡ length bits
  pub they : bits_of (length bits) (reply_at after reply).reply ≡ bits
  pub when : (reply_at after reply).minute ≡ minute

-- What a call says that settles a try by these samples: by what number, of which reply, and whether it stands now, or is asked for again with the round as it was.
pub record TryAnswered (p : Pace) (from : Polling) (samples : List ℕ) (minute : ℕ) (a : LeftByHearing) (v : Verdict) : Type 0 where
  pub bits : List ℕ
  pub settles : Settles p samples v.number bits
  pub reply : v.reply ≡ from.at
  pub stands : v.answered ≡ 1 → Stands minute bits a.polling from.at
  pub again : v.answered ≡ 0 → (a.polling.round ≡ from.round) × (bits ≡ [])

pub record AnswersByRuns : Type 0 where
  -- Listening begins at rest with nothing passed, whatever was drawn: a call that draws to the end of a poll leaves it so, and hears none of its samples.
  pub begins : (p : Pace) (w : Polling) → bad_pace p ≡ false → w.listening ≡ 0 → (out after : List ℕ) (d : LeftByDrawing) → DrawsPolling w p out d after
      → (d.polling.listening ≡ 0 → ⊥) → (d.polling.listening ≡ 1) × (d.polling.passed ≡ 0) × (d.polling.lines ≡ rest_state)
  -- From there, in any calls, up to the one that settles the try: `taken` and the samples that it takes are those sensed after this poll, and no others.
  -- (A round has 30 places for replies.)
  pub told : (p : Pace) (from : Polling) → bad_pace p ≡ false → is_over from ≡ false → length from.round.replies ≡ 30
      → from.listening ≡ 1 → from.passed ≡ 0 → from.lines ≡ rest_state
      → (drawn taken : List ℕ) (w : Polling) → History p any from drawn taken [] w
      → (minute : ℕ) (samples : List ℕ) (a : LeftByHearing) → HearsPolling w p minute samples a → (v : Verdict) → verdicts a ≡ v ∷ []
      → TryAnswered p from (taken ++ take a.taken samples) minute a v
  -- A reply that stands is never changed again.
  pub stays : (p : Pace) (from : Polling) → bad_pace p ≡ false → (drawn taken : List ℕ) (told : List Verdict) (end : Polling) → History p any from drawn taken told end
      → (i : ℕ) → i < from.at → reply_at end i ≡ reply_at from i
