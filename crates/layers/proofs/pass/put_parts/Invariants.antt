-- `layers::pass::put_parts` meets its contract: after i turns the parts of the pair's records in the first i noted slots were added. Assumes nothing.
use mathlib.Core.Path.{◌≡◌}
use mathlib.Core.Bool.{Bool, false}
use mathlib.Core.List.{List}
use Prim.Native.Nat.{ℕ, ◌*◌}
use lib.ListN.{length}
use Rattle.std.specs.Prelude.{Option}
use Rattle.putting.specs.declared.Text.{Text}
use Rattle.putting.specs.Adds.{Adds}
use Rattle.calendar.specs.declared.counting.Day.{Day}
use Rattle.layers.specs.Layers.{number_of}
use Rattle.layers.specs.Drawing.{layer_text}
use Rattle.layers.specs.Inside.Layers.{joined_after}
use Rattle.layers.specs.Inside.Noted.{own_up_to}
use Rattle.layers.proofs.pass.put_parts.Given as goal

pub record Layered (before : Text) (sheet own : List ℕ) (pair layer : ℕ) (begin : Option Day) (text : Text) (joined : Bool) (i : ℕ) : Type 0 where
  pub parts : Adds (layer_text begin layer false (own_up_to sheet pair own i)) (104 * length (own_up_to sheet pair own i)) before text
  pub goes_on : joined ≡ joined_after layer false (own_up_to sheet pair own i)

abbrev pub invariant-loop-slot : goal.invariant-loop-slot
invariant-loop-slot l =
    Layered l.initial.text l.noted.sheet.now l.noted.own.now l.noted.pair (number_of l.fn.layer) l.begin l.text l.joined l.slot-index
