-- `forms::words::put_type` meets its contract: the form that the settings pick. Assumes nothing.
use mathlib.Core.Path.{refl}
use native.Mathlib.Omega.{arith}
use Rattle.putting.proofs.Added.{text-is, at_most}
use Rattle.forms.specs.Words.{type_text}
use Rattle.forms.proofs.Forms.{chosen}
use Rattle.forms.proofs.words.put_type.Goals as goal

pub returns : goal.returns
unfolding type_text
returns c = at_most (omega arith) (text-is (chosen _ _ _ _ _ c.from.ensures refl) c.put_choice.ensures)
