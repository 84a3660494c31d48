-- `polling::drawing_out::draw` meets its contract: each return is what the tests that led there leave, whatever the other replies are. Assumes nothing.
use mathlib.Core.Path.{sym, ap, ap₂, ◌∙◌}
use mathlib.Core.Bool.{Bool, not, ◌||◌}
use lib.Dec.{eqb}
use borrow.Author.Tests.{ne_eqb}
use Rattle.frame.specs.Line.{mark}
use Rattle.polling.specs.declared.Polling.{Polling}
use Rattle.polling.specs.declared.turns.Turn.{Turn}
use Rattle.polling.specs.Meant.{turn_by}
use Rattle.polling.specs.Drawing.{drew}
use Rattle.polling.specs.Inside.Turns.{state_of, left_by_drawing}
use Rattle.polling.proofs.Meaning.{while-over, while-listening}
use Rattle.polling.proofs.Answers.{draws-bad, draws-none}
use Rattle.polling.proofs.drawing_out.draw.Goals as goal

pub returns-then-bad_pace : goal.returns-then-bad_pace
returns-then-bad_pace c =
    let a = c.args in
    record {
      on = λ rs its. draws-bad (state_of rs a.t) a.p a.out.now (left_by_drawing rs a.t c.undrawn.result) (sym c.bad_pace.ensures ∙ c.if-bad_pace.true)
          (ap (left_by_drawing rs a.t) c.undrawn.ensures ∙ ap (drew (state_of rs a.t) 0 0) c.number.ensures);
    }

pub returns-then-is_over : goal.returns-then-is_over
returns-then-is_over c =
    let a = c.args in
    let b = sym c.bad_pace.ensures ∙ c.if-bad_pace.false in
    let o = sym c.is_over.ensures ∙ c.if-is_over.true in
    record {
      on = λ rs its. draws-none (state_of rs a.t) a.p a.out.now (left_by_drawing rs a.t c.undrawn-then-is_over.result) b (ap (λ (x : Bool). x || not (eqb a.t.listening 0)) o)
          (ap (left_by_drawing rs a.t) c.undrawn-then-is_over.ensures ∙ ap₂ (λ (x : Polling) (y : Bool). drew x 0 (mark y) 0) (sym (while-over a.p (state_of rs a.t) o)) (sym o));
    }

pub returns-then-t-ne0 : goal.returns-then-t-ne0
returns-then-t-ne0 c =
    let a = c.args in
    let b = sym c.bad_pace.ensures ∙ c.if-bad_pace.false in
    let o = sym c.is_over.ensures ∙ c.if-is_over.false in
    let on = c.if-t-ne0.true in
    record {
      on = λ rs its. draws-none (state_of rs a.t) a.p a.out.now (left_by_drawing rs a.t c.undrawn-then-t-ne0.result) b (ap₂ (λ (x y : Bool). x || not y) o (ne_eqb a.t.listening 0 on))
          (ap (left_by_drawing rs a.t) c.undrawn-then-t-ne0.ensures
          ∙ ap (λ (x : Turn). drew (turn_by (state_of rs a.t) x.lines x.passed a.t.tried x.listening) 0 0 0) c.listens-heard.ensures.0
          ∙ ap₂ (λ (x : Polling) (y : Bool). drew x 0 (mark y) 0) (sym (while-listening a.p (state_of rs a.t) o on)) (sym o));
    }

pub draw_on-requires : goal.draw_on-requires
draw_on-requires c =
    record { p_value = sym c.bad_pace.ensures ∙ c.if-bad_pace.false; t_value = sym c.is_over.ensures ∙ c.if-is_over.false; listening_value = c.if-t-ne0.false }
