-- `layers::parts::put_mark` meets its contract, by the reply: the mark of an alarm where it is shown. Assumes nothing.
use mathlib.Core.Path.{◌≡◌, sym, ap, ◌∙◌}
use mathlib.Core.Bool.{true, false}
use mathlib.Core.List.{[], ◌∷◌}
use Prim.Native.Nat.{ℕ}
use native.Mathlib.Omega.{arith}
use Rattle.frame.specs.declared.Reading.{Reading}
use Rattle.listing.specs.Text.{ascii}
use Rattle.putting.proofs.Added.{text-is, at_most, nothing_added}
use Rattle.calendar.specs.declared.counting.Day.{Day}
use Rattle.forms.specs.Form.{fill}
use Rattle.layers.specs.Drawing.{alarm_shown, alarm_mark, mark_text}
use Rattle.layers.proofs.parts.put_mark.Goals as goal
use Rattle.std.specs.Prelude.{Option, Result, Ok}
use Rattle.frame.specs.declared.faults.Fault.{Fault}

module _ (begin : Option Day) (layer minute : ℕ) (reply : Result Reading Fault) (r : Reading) (is : reply ≡ Ok r) where
  shown : alarm_shown layer r ≡ true → fill (ascii "<path d='M~,0h1'/>") (minute ∷ []) ≡ mark_text begin layer minute reply
  unfolding alarm_mark
  shown e = sym (ap (mark_text begin layer minute) is ∙ simp e)

  not-shown : alarm_shown layer r ≡ false → [] ≡ mark_text begin layer minute reply
  unfolding alarm_mark
  not-shown e = sym (ap (mark_text begin layer minute) is ∙ simp e)

pub returns-in-Ok : goal.returns-in-Ok
returns-in-Ok c =
    let a = c.args in
    at_most (omega arith) (text-is (shown a.begin _ a.seen.minute a.seen.reply c.in-Ok.r c.in-Ok.is (sym c.alarm_shown.ensures ∙ c.if-alarm_shown.true)) c.put_form.ensures)

pub returns-else-alarm_shown : goal.returns-else-alarm_shown
returns-else-alarm_shown c =
    let a = c.args in
    nothing_added (not-shown a.begin _ a.seen.minute a.seen.reply c.in-Ok.r c.in-Ok.is (sym c.alarm_shown.ensures ∙ c.if-alarm_shown.false))
