-- `polling::settling::settle` meets its contract: what it makes of a try as the code has it is what is made of the try, whatever the other replies are.
use mathlib.Core.Path.{◌≡◌, refl, sym, ap, ap₂, ◌∙◌}
use mathlib.Core.List.{List}
use mathlib.Core.Bool.{Bool, true, false, ◌||◌}
use Prim.Native.Nat.{ℕ, ◌+◌}
use native.Mathlib.Omega.{arith}
use lib.Dec.{leb}
use borrow.Author.Tests.{le-leb, lt-leb}
use Rattle.frame.specs.Pick.{pick}
use Rattle.frame.specs.Line.{mark}
use Rattle.lines.specs.declared.SoFar.{SoFar}
use Rattle.lines.specs.SoFar.{rest_state}
use Rattle.lines.specs.Hearing.{MessageTold, nothing, message, spoiled, number_told}
use Rattle.polling.specs.declared.Pace.{Pace}
use Rattle.round.specs.declared.Polled.{Polled}
use Rattle.polling.specs.declared.Polling.{Polling}
use Rattle.polling.specs.declared.listening.Told.{Told}
use Rattle.polling.specs.declared.listening.Ear.TheVariants.{Open, Closed}
use Rattle.polling.specs.Meant.{is_over, listens}
use Rattle.polling.specs.Listening.{Listened, still_going, settled_by}
use Rattle.polling.specs.Settling.{is_message, asked_again, answered_with, settled_of, settled_at}
use Rattle.polling.specs.Inside.Ears.{told_by, message_in, number_in, ear_of, stands_by}
use Rattle.polling.specs.Inside.Turns.{state_of, turn_as, left_by_hearing}
use Rattle.polling.proofs.Taking.{kept, stood}
use Rattle.polling.proofs.settling.settle.Goals as goal
use Rattle.polling.proofs.settling.settle.Goals.{then-is_message-via-then-is_message, then-is_message-via-else-is_message+then-p-from}

message-by : (m : MessageTold) → message_in (told_by m) ≡ is_message m
message-by nothing = refl
message-by (message count bits) = refl
message-by (spoiled number) = refl

number-by : (m : MessageTold) → number_in (told_by m) ≡ number_told m
number-by nothing = refl
number-by (message count bits) = refl
number-by (spoiled number) = refl

module _ (p : Pace) (minute : ℕ) (w : Polling) where
  goes_on : (l : Listened) (left : SoFar) (taken : ℕ) → Open left taken ≡ ear_of l → settled_of (listens w left (w.passed + taken)) taken 0 0 0 0 ≡ settled_at p minute w l
  unfolding settled_at
  goes_on (still_going its many) left taken e =
      let same : left ≡ its = cc in
      let count : taken ≡ many = cc in
      ap₂ (λ (s : SoFar) (n : ℕ). settled_of (listens w s (w.passed + n)) n 0 0 0 0) same count
  goes_on (settled_by m many) left taken e = let bad : ◌≡◌ {A = ℕ} 0 1 = cc in absurd (omega arith)

  stands-by : (m : MessageTold) (taken : ℕ) → stands_by minute (told_by m) taken w ≡ settled_of (answered_with minute m w) taken w.at 1 (mark (is_over (answered_with minute m w))) (number_told m)
  stands-by nothing taken = refl
  stands-by (message count bits) taken = refl
  stands-by (spoiled number) taken = refl

  -- by whether it is answered
  settled-by : (m : MessageTold) (told : Told) (taken : ℕ) (b : Bool) → told ≡ told_by m → (message_in told || leb p.tries (w.tried + 1)) ≡ b
      → pick b (settled_of (answered_with minute m w) taken w.at 1 (mark (is_over (answered_with minute m w))) (number_told m)) (settled_of (asked_again w) taken w.at 0 0 (number_told m)) ≡ settled_at p minute w (settled_by m taken)
  unfolding settled_at
  settled-by m told taken b is t =
      ap (λ (x : Bool). pick x (settled_of (answered_with minute m w) taken w.at 1 (mark (is_over (answered_with minute m w))) (number_told m)) (settled_of (asked_again w) taken w.at 0 0 (number_told m)))
      (sym t ∙ ap (λ (x : Bool). x || leb p.tries (w.tried + 1)) (ap message_in is ∙ message-by m))

  stands : (l : Listened) (told : Told) (taken : ℕ) → Closed told taken ≡ ear_of l → (message_in told || leb p.tries (w.tried + 1)) ≡ true → stands_by minute told taken w ≡ settled_at p minute w l
  stands (still_going its many) told taken e t = let bad : ◌≡◌ {A = ℕ} 0 1 = cc in absurd (omega arith)
  stands (settled_by m many) told taken e t =
      let same : told ≡ told_by m = cc in
      let count : taken ≡ many = cc in
      ap₂ (λ (x : Told) (n : ℕ). stands_by minute x n w) same count ∙ stands-by m many ∙ settled-by m told many true same t

  again : (l : Listened) (told : Told) (taken : ℕ) → Closed told taken ≡ ear_of l → (message_in told || leb p.tries (w.tried + 1)) ≡ false → settled_of (asked_again w) taken w.at 0 0 (number_in told) ≡ settled_at p minute w l
  again (still_going its many) told taken e t = let bad : ◌≡◌ {A = ℕ} 0 1 = cc in absurd (omega arith)
  again (settled_by m many) told taken e t =
      let same : told ≡ told_by m = cc in
      let count : taken ≡ many = cc in
      ap₂ (λ (x : Told) (n : ℕ). settled_of (asked_again w) n w.at 0 0 (number_in x)) same count ∙ ap (λ (n : ℕ). settled_of (asked_again w) many w.at 0 0 n) (number-by m) ∙ settled-by m told many false same t

pub returns-in-Open : goal.returns-in-Open
returns-in-Open c =
    let a = c.args in
    let o = c.in-Open in
    record {
      on = λ rs its. ap (left_by_hearing rs a.t.at a.t) c.going_on.ensures
          ∙ ap (λ (x : List Polled). settled_of (state_of x (turn_as a.t o.left (a.t.passed + o.taken) a.t.tried 1)) o.taken 0 0 0 0) (kept rs a.t.at a.t.entry its)
          ∙ goes_on a.p a.minute (state_of rs a.t) _ o.left o.taken o.ensures.value;
    }

pub returns-then-is_message : goal.returns-then-is_message
returns-then-is_message c =
    let a = c.args in
    let o = c.in-Closed in
    let test : (message_in o.told || leb a.p.tries (a.t.tried + 1)) ≡ true = elim c.then-is_message.branch [
      | then-is_message-via-then-is_message w ↦ ap (λ (b : Bool). b || leb a.p.tries (a.t.tried + 1)) (sym c.is_message.ensures ∙ w.if-is_message.true)
      | then-is_message-via-else-is_message+then-p-from w ↦ ap₂ (λ (x y : Bool). x || y) (sym c.is_message.ensures ∙ w.if-is_message.false) (le-leb a.p.tries (a.t.tried + 1) (omega arith))
    ] in
    record {
      on = λ rs its. ap (left_by_hearing rs a.t.at a.t) c.answered.ensures
          ∙ stood rs a.t a.minute o.told o.taken its
          ∙ stands a.p a.minute (state_of rs a.t) _ o.told o.taken o.ensures.value test;
    }

pub returns-else-p-from : goal.returns-else-p-from
returns-else-p-from c =
    let a = c.args in
    let o = c.in-Closed in
    let test : (message_in o.told || leb a.p.tries (a.t.tried + 1)) ≡ false
    = ap₂ (λ (x y : Bool). x || y) (sym c.is_message.ensures ∙ c.if-is_message.false) (lt-leb a.p.tries (a.t.tried + 1) (omega arith)) in
    record {
      on = λ rs its. ap (left_by_hearing rs a.t.at a.t) c.asked_again.ensures
          ∙ ap (λ (x : List Polled). settled_of (state_of x (turn_as a.t rest_state 0 (a.t.tried + 1) 0)) o.taken a.t.at 0 0 (number_in o.told)) (kept rs a.t.at a.t.entry its)
          ∙ again a.p a.minute (state_of rs a.t) _ o.told o.taken o.ensures.value test;
    }
