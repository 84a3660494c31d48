-- `picture::axis::put_axis_day` meets its contract, by its test. Assumes nothing.
use mathlib.Core.Path.{◌≡◌, sym, ap, ◌∙◌}
use mathlib.Core.List.{[], ◌∷◌}
use Prim.Native.Nat.{ℕ}
use native.Mathlib.Omega.{arith}
use Rattle.putting.proofs.Added.{text-is, at_most}
use Rattle.listing.specs.Text.{ascii}
use Rattle.std.specs.Prelude.{Option, None, Some}
use Rattle.calendar.specs.declared.counting.Day.{Day}
use Rattle.calendar.specs.Days.{days_from}
use Rattle.forms.specs.Form.{fill}
use Rattle.picture.specs.Page.{date_on_axis, day_on_axis}
use Rattle.picture.proofs.axis.put_axis_day.Goals as goal

-- without the day of minute 0, and with it
counted : (begin : Option Day) (n : ℕ) → begin ≡ None → fill (ascii "~") (n ∷ []) ≡ day_on_axis begin n
unfolding day_on_axis
counted begin n is = ap (λ (b : Option Day). day_on_axis b n) (sym is)

dated : (begin : Option Day) (d : Day) (n : ℕ) → begin ≡ Some d → date_on_axis (days_from d n) ≡ day_on_axis begin n
unfolding day_on_axis
dated begin d n is = ap (λ (b : Option Day). day_on_axis b n) (sym is)

pub returns-in-Some : goal.returns-in-Some
returns-in-Some c =
    let a = c.args in
    text-is (ap date_on_axis c.after.ensures ∙ dated a.begin _ a.n c.in-Some.is) c.put_axis_date.ensures

pub returns-in-None : goal.returns-in-None
returns-in-None c = at_most (omega arith) (text-is (counted c.args.begin c.args.n c.in-None.is) c.put_form.ensures)
