-- `forms::form::put_choice` meets its contract: the form that is put is the choice, and no longer than the longest. Assumes nothing.
use mathlib.Core.Path.{◌≡◌, refl, ap, ◌∙◌}
use mathlib.Core.List.{List, []}
use Prim.Native.Nat.{ℕ, ◌≤◌}
use native.Mathlib.Omega.{arith}
use lib.ListN.{length}
use denote.Bor.{Bor}
use Rattle.std.specs.Option.{unwrap_or, option_map}
use Rattle.std.proofs.Common.{Option, None, Some}
use Rattle.putting.proofs.Added.{text-is, at_most}
use Rattle.forms.specs.Form.{fill, choice}
use Rattle.forms.specs.Inside.Bounds.{widest}
use Rattle.forms.proofs.Forms.{choice-picked, choice-widest}
use Rattle.forms.proofs.form.put_choice.Goals.{After-unwrap_or-form}
use Rattle.forms.proofs.form.put_choice.Goals as goal

-- what a reference has, or the bytes of another
or_other : (o : Option (Bor (List ℕ))) (d : Bor (List ℕ)) → (unwrap_or o d).now ≡ unwrap_or (option_map (λ f. f.now) o) d.now
or_other None d = refl
or_other (Some f) d = refl

module _ (b : After-unwrap_or-form) where
  is-choice : b.unwrap_or-form.result.now ≡ choice b.args.n b.args.forms.now
  is-choice =
      ap (λ (r : Bor (List ℕ)). r.now) b.unwrap_or-form.ensures ∙ or_other b.form_at.result _ ∙ ap (λ (o : Option (List ℕ)). unwrap_or o []) b.form_at.ensures
      ∙ choice-picked b.args.forms.now b.args.n

  fits : length b.unwrap_or-form.result.now ≤ widest b.args.forms.now
  fits = rw is-choice (choice-widest b.args.n b.args.forms.now)

pub put_form-requires : goal.put_form-requires
put_form-requires c = omega (arith, fits (goal.at.put_form-requires c).After-unwrap_or-form)

pub returns : goal.returns
returns c =
    let b = (goal.at.returns c).After-unwrap_or-form in
    at_most (omega (arith, fits b)) (text-is (ap (λ (f : List ℕ). fill f c.args.numbers.now) (is-choice b)) c.put_form.ensures)
