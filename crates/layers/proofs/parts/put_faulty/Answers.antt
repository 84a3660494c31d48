-- `layers::parts::put_faulty` meets its contract: a mark, or words, on the layers that have them. Assumes nothing.
use mathlib.Core.Path.{◌≡◌, refl, sym, ap, ◌∙◌}
use mathlib.Core.List.{[]}
use Prim.Native.Nat.{ℕ}
use native.Mathlib.Omega.{arith}
use Rattle.putting.proofs.Added.{then, text-is, at_most, nothing_added}
use Rattle.std.specs.Prelude.{Option}
use Rattle.frame.specs.Faults.{place_named}
use Rattle.frame.specs.Faults as faults
use Rattle.calendar.specs.declared.counting.Day.{Day}
use Rattle.layers.specs.declared.layer.Layer.{Layer}
use Rattle.layers.specs.declared.layer.Layer.TheVariants.{Levels, Temperatures, Faults, Alarm1, Alarm0, FaultList}
use Rattle.layers.specs.Layers.{number_of}
use Rattle.layers.specs.Drawing.{said_as, fault_mark}
use Rattle.layers.proofs.parts.put_faulty.Goals.{in-Faults, in-FaultList}
use Rattle.layers.proofs.parts.put_faulty.Goals as goal

module _ (begin : Option Day) (minute n place : ℕ) where
  as-mark : (layer : Layer) → layer ≡ Faults → said_as begin 0 minute n place ≡ fault_mark begin (number_of layer) minute n place
  unfolding fault_mark
  as-mark layer e = ap (λ (l : Layer). fault_mark begin (number_of l) minute n place) (sym e)

  as-words : (layer : Layer) → layer ≡ FaultList → said_as begin 1 minute n place ≡ fault_mark begin (number_of layer) minute n place
  unfolding fault_mark
  as-words layer e = ap (λ (l : Layer). fault_mark begin (number_of l) minute n place) (sym e)

  as-nothing : (layer : Layer) → (layer ≡ Faults → ⊥) → (layer ≡ FaultList → ⊥) → [] ≡ fault_mark begin (number_of layer) minute n place
  unfolding fault_mark
  as-nothing Levels f g = refl
  as-nothing Temperatures f g = refl
  as-nothing Faults f g = absurd (f refl)
  as-nothing Alarm1 f g = refl
  as-nothing Alarm0 f g = refl
  as-nothing FaultList f g = absurd (g refl)

pub returns-in_default : goal.returns-in_default
returns-in_default c =
    let a = c.args in
    nothing_added (as-nothing a.begin a.minute (faults.number_of a.fault) (place_named a.fault) a.layer c.in_default.not-Faults c.in_default.not-FaultList)

pub returns : goal.returns
returns c =
    let a = c.args in
    let n : ℕ = faults.number_of a.fault in
    let is : said_as a.begin c.match-layer.form a.minute c.number.result c.place_in.result ≡ fault_mark a.begin (number_of a.layer) a.minute n (place_named a.fault) =
    (λ i. said_as a.begin c.match-layer.form a.minute (c.number.ensures i) (c.place_in.ensures i))
    ∙ elim c.match-layer.branch [
      | in-Faults w ↦ (ap (λ (k : ℕ). said_as a.begin k a.minute n (place_named a.fault)) w.form-is ∙ as-mark a.begin a.minute n (place_named a.fault) a.layer w.in-Faults.is)
      | in-FaultList w ↦ (ap (λ (k : ℕ). said_as a.begin k a.minute n (place_named a.fault)) w.form-is ∙ as-words a.begin a.minute n (place_named a.fault) a.layer w.in-FaultList.is)
    ] in
    at_most (omega arith) (text-is is (then (then (then (then c.put_choice.ensures c.put_moment.ensures) c.word.ensures) c.put_fault.ensures) c.put_choice-2.ensures))
