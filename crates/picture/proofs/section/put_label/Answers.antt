-- `picture::section::put_label` meets its contract: its parts are put one after another. Assumes nothing.
use mathlib.Core.Path.{refl}
use native.Mathlib.Omega.{arith}
use Rattle.putting.proofs.Added.{text-is, at_most}
use Rattle.forms.proofs.Forms.{chosen}
use Rattle.picture.specs.Page.{label_text}
use Rattle.picture.proofs.section.put_label.Goals as goal

pub returns : goal.returns
unfolding label_text
returns c = at_most (omega arith) (text-is (chosen _ _ _ _ _ c.number.ensures refl) c.put_choice.ensures)
