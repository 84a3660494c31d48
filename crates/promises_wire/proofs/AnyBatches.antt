-- In any batches: the parts put together. That it ends is that it has not gone on for longer than it may; and by a habit there are as many turns as one likes, so also one
-- more than these.
use mathlib.Core.Path.{◌≡◌, refl}
use mathlib.Core.Bool.{Bool, true, false}
use mathlib.Core.List.{List}
use Prim.Native.Nat.{ℕ, suc, ◌+◌, ◌-◌, ◌*◌}
use native.Mathlib.Omega.{arith}
use Rattle.board.specs.declared.Row.{Row}
use Rattle.board.specs.Rows.{board_of}
use Rattle.polling.specs.declared.Begun.{Begun}
use Rattle.polling.specs.declared.Pace.{Pace}
use Rattle.polling.specs.declared.Polling.{Polling}
use Rattle.polling.specs.Pace.{bad_pace}
use Rattle.polling.specs.Beginning.{used_rows}
use Rattle.polling.specs.Meant.{is_over}
use Rattle.polling.specs.Calls.{BeginsPolling}
use Rattle.promises_polling.specs.Ends.{try_draws}
use Rattle.promises_wire.specs.Wire.{Sent}
use Rattle.promises_wire.specs.AnyBatches.{SentToAll, Habit, AllSaid, InAnyBatches}
use Rattle.promises_wire.proofs.Running.{run-by-the-recorder}
use Rattle.promises_wire.proofs.Turns.{turns-few}
use Rattle.promises_wire.proofs.Answering.{sent-enrolled, turns-run, it-says, they-say}
use Rattle.promises_wire.proofs.Habits.{any-habit}
use Rattle.promises_wire.proofs.Evenly.{sent-evenly}

must-be : (b : Bool) → (b ≡ false → ⊥) → b ≡ true
must-be true h = refl
must-be false h = absurd (h refl)

all_said : (p : Pace) → bad_pace p ≡ false → (rows : List Row) (minute : ℕ) (b : Begun) → BeginsPolling rows minute b → b.number ≡ 0
    → (xs : List Sent) → SentToAll p (used_rows (board_of rows)) xs → (h : Habit) → AllSaid p rows b.polling xs h
all_said p fine rows minute b begins accepted xs sent h =
    let from : Polling = b.polling in
    let most : ℕ = (from.round.count - from.at) * (p.tries * (try_draws p + p.longest)) in
    let r = any-habit p fine rows minute b begins accepted xs sent h (suc most) in
    let over = must-be (is_over r.end) (λ e. let few = turns-few p fine r.turns e in omega (arith, few)) in
    let ran = run-by-the-recorder.ran rows minute b begins accepted (sent-enrolled p sent) p fine r.stood r.since r.end (turns-run r.turns) in
    record {
      many = suc most;
      run = r;
      over = over;
      ran = ran;
      say = they-say p fine rows minute b begins accepted xs sent (suc most) r.stood r.since r.end r.turns r.answering over ran;
    }

pub in-any-batches : InAnyBatches
in-any-batches =
    record {
      ends = λ p fine from n ys since w t many. must-be (is_over w) (λ e. let few = turns-few p fine t e in omega (arith, few, many));
      said = λ p fine rows minute b begins accepted ok i row at x timely by n ys since w t sends ran q poll.
          it-says p fine rows minute b begins accepted ok i x timely row at by t sends ran q poll;
      say = they-say;
      sent = all_said;
      readings = λ p fine rows minute b begins accepted rs can quiet low still suits h.
          let m = sent-evenly p fine quiet low still suits can in
          (m.xs, m.are, all_said p fine rows minute b begins accepted m.xs m.sent h);
    }
