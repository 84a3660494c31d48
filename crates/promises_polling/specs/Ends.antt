-- It ends, whatever the lines do: a round draws and takes at most so many samples, in every history of calls; and while it is not over, one of its two calls goes on.
use Rattle.std.specs.Prelude.{◌≡◌, false, List, [], ℕ, ◌+◌, ◌-◌, ◌*◌, ◌≤◌, length}
use Rattle.polling.specs.Drawing.{LeftByDrawing}
use Rattle.polling.specs.declared.Pace.{Pace}
use Rattle.polling.specs.declared.Polling.{Polling}
use Rattle.polling.specs.Settling.{LeftByHearing}
use Rattle.polling.specs.Pace.{bad_pace}
use Rattle.polling.specs.Calls.{DrawsPolling, HearsPolling}
use Rattle.promises_polling.specs.History.{any, Verdict, History}

-- A try draws its delay and 16 bits.
abbrev pub try_draws : Pace → ℕ
try_draws p = p.delay + 16 * (p.low + p.still)

-- One of two calls of the same state goes on, and the other does not.
pub data OneGoesOn (draw : LeftByDrawing) (hear : LeftByHearing) : Type 0 where
  draws : 1 ≤ draw.count → hear.taken ≡ 0 → OneGoesOn draw hear
  hears : draw.count ≡ 0 → 1 ≤ hear.taken → OneGoesOn draw hear

pub record PollingEnds : Type 0 where
  -- Of a try, from its beginning: no more is drawn than its delay and poll, and no more is taken than `longest`, with the sample that settles it.
  pub one_try : (p : Pace) (from : Polling) → bad_pace p ≡ false → from.passed ≡ 0 → from.listening ≡ 0
      → (drawn taken : List ℕ) (w : Polling) → History p any from drawn taken [] w
      → (minute : ℕ) (samples : List ℕ) (a : LeftByHearing) → HearsPolling w p minute samples a
      → (length drawn ≤ try_draws p) × (length taken + a.taken ≤ p.longest)
  -- Of a round, from any state whatever: of each transmitter whose turn is still to come, or has come, `tries` tries.
  pub bound : (p : Pace) (from : Polling) → bad_pace p ≡ false
      → (drawn taken : List ℕ) (told : List Verdict) (end : Polling) → History p any from drawn taken told end
      → length drawn + length taken ≤ (from.round.count - from.at) * (p.tries * (try_draws p + p.longest))
  -- While it is not over, with room for a sample and a sample lent, drawing draws or hearing takes, and never both.
  pub goes_on : (p : Pace) (w : Polling) → bad_pace p ≡ false → (out after : List ℕ) (d : LeftByDrawing) → DrawsPolling w p out d after
      → (minute : ℕ) (samples : List ℕ) (a : LeftByHearing) → HearsPolling w p minute samples a
      → d.over ≡ 0 → 1 ≤ length out → 1 ≤ length samples → OneGoesOn d a
  -- And once it is over, neither does.
  pub stands : (p : Pace) (w : Polling) → bad_pace p ≡ false → (out after : List ℕ) (d : LeftByDrawing) → DrawsPolling w p out d after
      → (minute : ℕ) (samples : List ℕ) (a : LeftByHearing) → HearsPolling w p minute samples a
      → d.over ≡ 1 → (d.count ≡ 0) × (a.taken ≡ 0) × (a.over ≡ 1) × (d.polling ≡ w) × (a.polling ≡ w)
