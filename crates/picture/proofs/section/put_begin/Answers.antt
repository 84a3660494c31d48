-- `picture::section::put_begin` meets its contract: its parts are put one after another. Assumes nothing.
use mathlib.Core.Path.{◌≡◌, refl, ap, ◌∙◌}
use mathlib.Core.List.{List, [], ◌∷◌}
use Prim.Native.Nat.{ℕ}
use native.Mathlib.Omega.{arith}
use Rattle.putting.proofs.Added.{then, text-is, at_most}
use Rattle.forms.specs.Form.{fill}
use Rattle.forms.proofs.Forms.{chosen}
use Rattle.layers.specs.Layers.{number_of}
use Rattle.picture.specs.Page.{begin_text}
use Rattle.picture.proofs.section.put_begin.Goals as goal

pub returns : goal.returns
unfolding begin_text
returns c =
    let v = c.args.v in
    let layer = c.from.ensures ∙ c.number.ensures in
    let address = c.from-2.ensures in
    let numbers : ◌≡◌ {A = List ℕ} (c.from.result ∷ v.from ∷ v.top ∷ v.span ∷ v.height ∷ c.from-2.result ∷ []) (number_of v.layer ∷ v.from ∷ v.top ∷ v.span ∷ v.height ∷ v.address ∷ []) = λ i. layer i ∷ v.from ∷ v.top ∷ v.span ∷ v.height ∷ address i ∷ [] in
    at_most (omega arith) (then (text-is (ap (fill _) numbers) c.put_form.ensures) (text-is (chosen _ _ _ _ _ c.number-2.ensures refl) c.put_choice.ensures))
