-- `layers::parts::put_point` meets its contract: a point where there is a value. Assumes nothing.
use mathlib.Core.Path.{◌≡◌, refl, sym, ap, ◌∙◌}
use mathlib.Core.Bool.{Bool, true, false}
use mathlib.Core.List.{[], ◌∷◌}
use Prim.Native.Nat.{ℕ}
use Rattle.std.proofs.Common.{Option, None, Some}
use Rattle.std.specs.Int.{from_bool}
use Rattle.frame.specs.Pick.{pick}
use Rattle.listing.specs.Text.{ascii}
use Rattle.putting.proofs.Added.{text-is, nothing_added}
use Rattle.forms.specs.Form.{fill, choice}
use Rattle.layers.specs.Drawing.{point_text}
use Rattle.layers.proofs.parts.put_point.Goals as goal

-- yes as 1, and no as 0
as-number : (b : Bool) → from_bool b ≡ pick b 1 0
as-number true = refl
as-number false = refl

module _ (joined : Bool) (minute : ℕ) (value : Option ℕ) where
  no-point : value ≡ None → [] ≡ point_text joined minute value
  unfolding point_text
  no-point is = ap (point_text joined minute) (sym is)

  a_point : (form y z : ℕ) → form ≡ pick joined 1 0 → z ≡ y → value ≡ Some y → fill (choice form (ascii "M~,~h0|L~,~")) (minute ∷ z ∷ []) ≡ point_text joined minute value
  unfolding point_text
  a_point form y z f e is =
      (λ i. fill (choice (f i) (ascii "M~,~h0|L~,~")) (minute ∷ e i ∷ [])) ∙ ap (point_text joined minute) (sym is)

pub returns-in_default : goal.returns-in_default
returns-in_default c =
    let a = c.args in
    nothing_added (no-point a.joined a.minute a.value c.in_default.is)

pub returns-in-Some : goal.returns-in-Some
returns-in-Some c =
    let a = c.args in
    text-is (a_point a.joined a.minute a.value c.from.result c.in-Some.y _ (c.from.ensures ∙ as-number a.joined) c.from-in-Some.ensures c.in-Some.is) c.put_choice.ensures
