-- `frame::charts::place` meets its contract: the rule of the table, at this code. Assumes nothing.
use mathlib.Core.Path.{◌∙◌, ap}
use Prim.Native.Nat.{ℕ, ◌*◌, ◌/◌, ◌%◌, ◌^◌}
use Rattle.frame.proofs.Tables.{places-rule}
use Rattle.frame.proofs.charts.place.Goals as goal

pub returns : goal.returns
returns c =
    let a = c.args in
    ap (λ (w : ℕ). w / 2 ^ (4 * a.code) % 16) c.places.ensures ∙ places-rule a.chart a.code c.requires
