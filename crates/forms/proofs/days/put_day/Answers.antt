-- `forms::days::put_day` meets its contract, by its test. Assumes nothing.
use mathlib.Core.Path.{◌≡◌, sym, ap, ◌∙◌}
use native.Mathlib.Omega.{arith}
use Rattle.putting.proofs.Added.{text-is, at_most}
use mathlib.Core.List.{[], ◌∷◌}
use Prim.Native.Nat.{ℕ}
use Rattle.std.proofs.Common.{Option, None, Some}
use Rattle.listing.specs.Text.{ascii}
use Rattle.calendar.specs.declared.counting.Day.{Day}
use Rattle.calendar.specs.Days.{days_from}
use Rattle.forms.specs.Form.{fill}
use Rattle.forms.specs.Days.{date_text, day_text}
use Rattle.forms.proofs.days.put_day.Goals as goal

-- without the day of minute 0, and with it
counted : (begin : Option Day) (n : ℕ) → begin ≡ None → fill (ascii "day ~") (n ∷ []) ≡ day_text begin n
unfolding day_text
counted begin n is = ap (λ b. day_text b n) (sym is)

dated : (begin : Option Day) (d : Day) (n : ℕ) → begin ≡ Some d → date_text (days_from d n) ≡ day_text begin n
unfolding day_text
dated begin d n is = ap (λ b. day_text b n) (sym is)

pub returns-in-Some : goal.returns-in-Some
returns-in-Some c =
    let a = c.args in
    text-is (ap date_text c.after.ensures ∙ dated a.begin _ a.n c.in-Some.is) c.put_date.ensures

pub returns-in-None : goal.returns-in-None
returns-in-None c = at_most (omega arith) (text-is (counted c.args.begin c.args.n c.in-None.is) c.put_form.ensures)
