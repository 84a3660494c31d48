-- `picture::section::put_value` meets its contract, by the layer. Assumes nothing.
use mathlib.Core.Path.{◌≡◌, refl, sym, ap}
use mathlib.Core.List.{[]}
use Prim.Native.Nat.{ℕ}
use native.Mathlib.Omega.{arith}
use Rattle.putting.proofs.Added.{text-is, at_most, nothing_added}
use Rattle.forms.specs.Words.{level_text, degrees_text}
use Rattle.layers.specs.declared.layer.Layer.{Layer}
use Rattle.layers.specs.declared.layer.Layer.TheVariants.{Levels, Temperatures, Faults, Alarm1, Alarm0, FaultList}
use Rattle.layers.specs.Layers.{number_of}
use Rattle.picture.specs.Page.{value_text}
use Rattle.picture.proofs.section.put_value.Goals as goal

module _ (settings n : ℕ) where
  a-level : (layer : Layer) → layer ≡ Levels → level_text settings n ≡ value_text (number_of layer) settings n
  unfolding value_text
  a-level layer is = ap (λ (l : Layer). value_text (number_of l) settings n) (sym is)

  a-heat : (layer : Layer) → layer ≡ Temperatures → degrees_text n ≡ value_text (number_of layer) settings n
  unfolding value_text
  a-heat layer is = ap (λ (l : Layer). value_text (number_of l) settings n) (sym is)

  no_value : (layer : Layer) → (layer ≡ Levels → ⊥) → (layer ≡ Temperatures → ⊥) → [] ≡ value_text (number_of layer) settings n
  unfolding value_text
  no_value Levels f g = absurd (f refl)
  no_value Temperatures f g = absurd (g refl)
  no_value Faults f g = refl
  no_value Alarm1 f g = refl
  no_value Alarm0 f g = refl
  no_value FaultList f g = refl

pub returns-in-Levels : goal.returns-in-Levels
returns-in-Levels c = text-is (a-level c.args.settings c.args.n c.args.layer c.in-Levels.is) c.put_level.ensures

pub returns-in-Temperatures : goal.returns-in-Temperatures
returns-in-Temperatures c = at_most (omega arith) (text-is (a-heat c.args.settings c.args.n c.args.layer c.in-Temperatures.is) c.put_degrees.ensures)

pub returns-in_default : goal.returns-in_default
returns-in_default c = nothing_added (no_value c.args.settings c.args.n c.args.layer c.in_default.not-Levels c.in_default.not-Temperatures)
