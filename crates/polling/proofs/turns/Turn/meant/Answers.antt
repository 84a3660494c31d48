-- `polling::turns::Turn::meant` meets its contract: each return is what the state means by the tests that led there, whatever the other replies are.
use mathlib.Core.Path.{◌≡◌, refl, sym, ap, subst, ◌∙◌}
use Prim.Native.Nat.{ℕ, ◌<◌, ◌≤◌}
use native.Mathlib.Omega.{arith}
use lib.ListN.{length}
use Rattle.lines.specs.declared.SoFar.{SoFar}
use Rattle.lines.specs.SoFar.{meant}
use Rattle.round.specs.declared.Polled.{Polled}
use Rattle.polling.specs.declared.turns.Turn.{Turn}
use Rattle.polling.specs.Meant.{try_drawn, turn_by, listens}
use Rattle.polling.specs.Inside.Ears.{Ready}
use Rattle.polling.specs.Inside.Turns.{state_of, turn_as}
use Rattle.polling.proofs.Meaning.{while-listening, once-drawn, while-drawing}
use Rattle.polling.proofs.Resting.{rest-ready}
use Rattle.polling.proofs.turns.Turn.meant.Goals as goal

same_turn : (t r : Turn) (s : SoFar) (passed listening : ℕ) → r ≡ turn_as t s passed t.tried listening → r ≡ turn_as t r.lines r.passed t.tried r.listening
same_turn t r s passed listening e = subst (λ (x : Turn). x ≡ turn_as t x.lines x.passed t.tried x.listening) (sym e) refl

pub returns-then-self-ne0 : goal.returns-then-self-ne0
returns-then-self-ne0 c =
    let a = c.args in
    let e = c.listens.ensures.0 in (
      record {
        on = λ rs its. ap (state_of rs) e ∙ sym (while-listening a.p (state_of rs a.self) c.requires.self_value c.if-self-ne0.true);
        same = same_turn a.self c.listens.result (meant a.self.lines) a.self.passed 1 e;
      },
      c.listens.ensures.1,
    )

pub returns-then-size_of-self : goal.returns-then-size_of-self
returns-then-size_of-self c =
    let a = c.args in
    let rest = c.at_rest-rest in
    let size = c.size_of.ensures in
    let e = c.so_far.ensures in
    let done : length (try_drawn a.p a.self.entry.address) ≤ a.self.passed = omega (arith, size, c.if-size_of-self.true) in (
      record {
        on = λ rs its. ap (state_of rs) e ∙ ap (λ (s : SoFar). listens (state_of rs a.self) s 0) rest.ensures
            ∙ sym (once-drawn a.p (state_of rs a.self) c.requires.self_value c.if-self-ne0.false
            (subst (λ (x : Polled). length (try_drawn a.p x.address) ≤ a.self.passed) (sym its) done));
        same = same_turn a.self c.so_far.result rest.result 0 1 e;
      },
      subst (λ (s : Turn). Ready s.lines) (sym e) (subst Ready (sym rest.ensures) rest-ready),
    )

pub returns : goal.returns
returns c =
    let a = c.args in
    let rest = c.at_rest-rest in
    let size = c.size_of.ensures in
    let e = c.so_far-2.ensures in
    let more : a.self.passed < length (try_drawn a.p a.self.entry.address) = omega (arith, size, c.if-size_of-self.false) in (
      record {
        on = λ rs its. ap (state_of rs) e ∙ ap (λ (s : SoFar). turn_by (state_of rs a.self) s a.self.passed a.self.tried 0) rest.ensures
            ∙ sym (while-drawing a.p (state_of rs a.self) c.requires.self_value c.if-self-ne0.false
            (subst (λ (x : Polled). a.self.passed < length (try_drawn a.p x.address)) (sym its) more));
        same = same_turn a.self c.so_far-2.result rest.result a.self.passed 0 e;
      },
      subst (λ (s : Turn). Ready s.lines) (sym e) (subst Ready (sym rest.ensures) rest-ready),
    )
