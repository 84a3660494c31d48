-- `picture::axis::put_days` meets its contract: the ticks so far stand behind the row's beginning. Assumes nothing.
use mathlib.Core.List.{List, ◌++◌}
use Prim.Native.Nat.{ℕ, zero, suc, ◌+◌, ◌*◌}
use Rattle.listing.specs.Text.{ascii}
use Rattle.putting.specs.Adds.{Adds}
use Rattle.picture.specs.declared.axis.Axis.{Axis}
use Rattle.picture.specs.Page.{tick_of}
use Rattle.picture.proofs.axis.put_days.Given as goal

unfoldable pub up_to : Axis → ℕ → List ℕ
up_to a zero = ascii "<div class='row'><div class='y'><b>day</b></div><div class='axis'>"
up_to a (suc i) = up_to a i ++ tick_of a i

abbrev pub invariant-loop-i : goal.invariant-loop-i
invariant-loop-i l = Adds (up_to l.a l.i) (66 + 35 * l.i) l.fn.text l.text
