-- `summary::handed::is_blank` meets its contract: the fields are compared in their order.
use mathlib.Core.Path.{◌≡◌, refl, ◌∙◌}
use mathlib.Core.Bool.{Bool, true, false, ◌&&◌}
use lib.Dec.{eqb}
use Rattle.summary.specs.Handed.{is_blank}
use Rattle.summary.proofs.handed.is_blank.Goals as goal

grouped : (a b c d e f : Bool) → (a && (b && (c && (d && (e && f))))) ≡ (((((a && b) && c) && d) && e) && f)
grouped false b c d e f = refl
grouped true false c d e f = refl
grouped true true false d e f = refl
grouped true true true false e f = refl
grouped true true true true e f = refl

pub returns : goal.returns
unfolding is_blank
returns c = (rw c.blank_line.ensures at c.eq.ensures) ∙ (let l = c.args.line in grouped (eqb l.address 0) (eqb l.settings 0) (eqb l.lowest 0) (eqb l.highest 0) (eqb l.good 0) (eqb l.faulty 0))
