-- `picture::section::put_frame` meets its contract: its parts are put one after another. Assumes nothing.
use mathlib.Core.Path.{refl}
use native.Mathlib.Omega.{arith}
use Rattle.putting.proofs.Added.{then, text-is, at_most}
use Rattle.forms.proofs.Forms.{chosen}
use Rattle.picture.specs.Page.{frame_text}
use Rattle.picture.proofs.section.put_frame.Goals as goal

pub returns : goal.returns
unfolding frame_text
returns c = at_most (omega arith) (then (then c.put_begin.ensures c.put_parts.ensures) (text-is (chosen _ _ _ _ _ c.number.ensures refl) c.put_choice.ensures))
