-- `layers::pass::put_layer` meets its contract: above the last layer nothing is drawn. Assumes nothing.
use mathlib.Core.Path.{sym}
use Rattle.putting.proofs.Added.{nothing_added}
use Rattle.layers.proofs.Drawn.{layer-beyond}
use Rattle.layers.proofs.pass.put_layer.Goals as goal

pub returns-in_default : goal.returns-in_default
returns-in_default c = nothing_added (sym (layer-beyond _ _ _ _ c.in_default.ensures))
