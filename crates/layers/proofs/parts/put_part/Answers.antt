-- `layers::parts::put_part` meets its contract, by the layer. Assumes nothing.
use mathlib.Core.Path.{◌≡◌, refl, sym, ap, ◌∙◌}
use mathlib.Core.Bool.{Bool, false}
use mathlib.Core.List.{List}
use Prim.Native.Nat.{ℕ}
use native.Mathlib.Omega.{arith}
use lib.Dec.{ltb}
use Rattle.std.proofs.Common.{Option}
use Rattle.std.specs.Option.{is_some}
use Rattle.frame.specs.Pick.{pick}
use Rattle.putting.proofs.Added.{text-is, at_most}
use Rattle.calendar.specs.declared.counting.Day.{Day}
use Rattle.layers.specs.declared.layer.Layer.{Layer}
use Rattle.layers.specs.declared.layer.Layer.TheVariants.{Levels, Temperatures, Faults, Alarm1, Alarm0, FaultList}
use Rattle.layers.specs.Layers.{number_of}
use Rattle.layers.specs.Drawing.{value_in, point_text, mark_text}
use Rattle.layers.proofs.parts.put_part.Goals.{in-Levels, in-Temperatures}
use Rattle.layers.proofs.parts.put_part.Goals as goal
use Rattle.std.specs.Prelude.{Result}
use Rattle.frame.specs.declared.faults.Fault.{Fault}
use Rattle.frame.specs.declared.Reading.{Reading}

module _ (begin : Option Day) (joined : Bool) (minute : ℕ) (reply : Result Reading Fault) where
  abbrev part : Layer → List ℕ
  part l = pick (ltb (number_of l) 2) (point_text joined minute (value_in (number_of l) reply)) (mark_text begin (number_of l) minute reply)

  abbrev goes : Layer → Bool
  goes l = pick (ltb (number_of l) 2) (is_some (value_in (number_of l) reply)) false

  -- the layers with marks
  off-line : (layer : Layer) → (layer ≡ Levels → ⊥) → (layer ≡ Temperatures → ⊥) → (mark_text begin (number_of layer) minute reply ≡ part layer) × (false ≡ goes layer)
  off-line Levels f g = absurd (f refl)
  off-line Temperatures f g = absurd (g refl)
  off-line Faults f g = (refl, refl)
  off-line Alarm1 f g = (refl, refl)
  off-line Alarm0 f g = (refl, refl)
  off-line FaultList f g = (refl, refl)

  -- the lines
  module _ (layer : Layer) (v : Option ℕ) where
    level : layer ≡ Levels → v ≡ value_in 0 reply → (point_text joined minute v ≡ part layer) × (is_some v ≡ goes layer)
    level is e = (ap (point_text joined minute) e ∙ ap part (sym is), ap is_some e ∙ ap goes (sym is))

    heat : layer ≡ Temperatures → v ≡ value_in 1 reply → (point_text joined minute v ≡ part layer) × (is_some v ≡ goes layer)
    heat is e = (ap (point_text joined minute) e ∙ ap part (sym is), ap is_some e ∙ ap goes (sym is))

pub returns-in_default : goal.returns-in_default
returns-in_default c =
    let a = c.args in
    let is = off-line a.begin a.joined a.seen.minute a.seen.reply a.layer c.in_default.not-Levels c.in_default.not-Temperatures in
    record { adds = text-is is.0 c.put_mark.ensures; joined_value = is.1 }

pub returns : goal.returns
returns c =
    let a = c.args in
    let v = c.match-layer.value in
    let is : (point_text a.joined a.seen.minute v ≡ part a.begin a.joined a.seen.minute a.seen.reply a.layer) × (is_some v ≡ goes a.begin a.joined a.seen.minute a.seen.reply a.layer) =
    elim c.match-layer.branch [
      | in-Levels w ↦ level a.begin a.joined a.seen.minute a.seen.reply a.layer v w.in-Levels.is (w.value-is ∙ w.level_in-value.ensures)
      | in-Temperatures w ↦ heat a.begin a.joined a.seen.minute a.seen.reply a.layer v w.in-Temperatures.is (w.value-is ∙ w.heat_in-value.ensures)
    ] in
    record { adds = at_most (omega arith) (text-is is.0 c.put_point.ensures); joined_value = c.is_some.ensures ∙ is.1 }
