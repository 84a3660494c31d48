-- `polling::drawing_out::draw_on` meets its contract: what was put down is what was left of the try, and the state after it is what it then means, whatever the other replies are. Assumes nothing.
use mathlib.Core.Path.{refl, sym, ap, subst, ◌∙◌}
use Prim.Native.Nat.{◌+◌, ◌<◌, ◌≤◌}
use native.Mathlib.Omega.{arith}
use lib.ListN.{length, drop, length-drop}
use Rattle.lines.specs.declared.SoFar.{SoFar}
use Rattle.round.specs.declared.Polled.{Polled}
use Rattle.polling.specs.declared.Polling.{Polling}
use Rattle.polling.specs.Meant.{try_drawn, turn_by, draws}
use Rattle.polling.specs.Drawing.{drew}
use Rattle.polling.specs.Inside.Puts.{Puts}
use Rattle.polling.specs.Inside.Turns.{state_of, left_by_drawing}
use Rattle.polling.proofs.Meaning.{once-drawn, while-drawing}
use Rattle.polling.proofs.Paces.{good}
use Rattle.polling.proofs.Sizes.{try-short}
use Rattle.polling.proofs.Putting.{fits_in}
use Rattle.polling.proofs.Answers.{draws-on}
use Rattle.polling.proofs.Taking.{its-entry}
use Rattle.polling.proofs.drawing_out.draw_on.Goals as goal

pub overflow_add-passed : goal.overflow_add-passed
overflow_add-passed c =
    let put = c.draw_try-many in
    let address = c.args.t.entry.address in
    let few : put.result ≤ length (drop c.args.t.passed (try_drawn c.args.p address)) = (fits_in put.ensures).1 in
    omega (arith, few, length-drop c.args.t.passed (try_drawn c.args.p address), try-short c.args.p (good c.args.p c.requires.p_value) address)

pub returns-then-size_of-passed : goal.returns-then-size_of-passed
returns-then-size_of-passed c =
    let a = c.args in
    let put = c.draw_try-many in
    let rest = c.at_rest-rest in
    let size = c.size_of.ensures in
    let done : length (try_drawn a.p a.t.entry.address) ≤ a.t.passed + put.result = omega (arith, size, c.if-size_of-passed.true) in
    record {
      on = λ rs its.
          let entry = sym (its-entry rs a.t c.requires.t_value its) in
          draws-on (state_of rs a.t) a.p a.out.now (left_by_drawing rs a.t c.drew.result) c.requires.p_value c.requires.t_value c.requires.listening_value put.result put.new.out
          (subst (λ (x : Polled). Puts (drop a.t.passed (try_drawn a.p x.address)) a.out.now put.result put.new.out) entry put.ensures)
          (ap (left_by_drawing rs a.t) c.drew.ensures
          ∙ ap (λ (s : SoFar). drew (turn_by (state_of rs a.t) s 0 a.t.tried 1) put.result 0 0) rest.ensures
          ∙ ap (λ (x : Polling). drew x put.result 0 0)
          (sym (once-drawn a.p (draws (state_of rs a.t) (a.t.passed + put.result)) c.requires.t_value refl
          (subst (λ (x : Polled). length (try_drawn a.p x.address) ≤ a.t.passed + put.result) entry done))));
    }

pub returns : goal.returns
returns c =
    let a = c.args in
    let put = c.draw_try-many in
    let rest = c.at_rest-rest in
    let size = c.size_of.ensures in
    let more : a.t.passed + put.result < length (try_drawn a.p a.t.entry.address) = omega (arith, size, c.if-size_of-passed.false) in
    record {
      on = λ rs its.
          let entry = sym (its-entry rs a.t c.requires.t_value its) in
          draws-on (state_of rs a.t) a.p a.out.now (left_by_drawing rs a.t c.drew-2.result) c.requires.p_value c.requires.t_value c.requires.listening_value put.result put.new.out
          (subst (λ (x : Polled). Puts (drop a.t.passed (try_drawn a.p x.address)) a.out.now put.result put.new.out) entry put.ensures)
          (ap (left_by_drawing rs a.t) c.drew-2.ensures
          ∙ ap (λ (s : SoFar). drew (turn_by (state_of rs a.t) s (a.t.passed + put.result) a.t.tried 0) put.result 0 0) rest.ensures
          ∙ ap (λ (x : Polling). drew x put.result 0 0)
          (sym (while-drawing a.p (draws (state_of rs a.t) (a.t.passed + put.result)) c.requires.t_value refl
          (subst (λ (x : Polled). a.t.passed + put.result < length (try_drawn a.p x.address)) entry more))));
    }
