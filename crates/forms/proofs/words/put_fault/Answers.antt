-- `forms::words::put_fault` meets its contract: the form that the number picks. Assumes nothing.
use mathlib.Core.Path.{ap}
use mathlib.Core.List.{[], ◌∷◌}
use Prim.Native.Nat.{ℕ}
use native.Mathlib.Omega.{arith}
use Rattle.putting.proofs.Added.{text-is, at_most}
use Rattle.forms.specs.Words.{fault_text}
use Rattle.forms.proofs.Forms.{chosen}
use Rattle.forms.proofs.words.put_fault.Goals as goal

pub returns : goal.returns
unfolding fault_text
returns c = at_most (omega arith) (text-is (chosen _ _ _ _ _ c.from.ensures (ap (λ (n : ℕ). n ∷ []) c.from-2.ensures)) c.put_choice.ensures)
