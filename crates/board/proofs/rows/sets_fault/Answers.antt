-- `board::rows::sets_fault` meets its contract: the definition is opened, arm by arm.
use Rattle.std.proofs.Common.{arith}
use Rattle.std.proofs.lemmas.Grind.{common_steps}
use Rattle.board.specs.Row.{sets_fault}
use Rattle.board.proofs.rows.sets_fault.Goals as goal

pub returns-in_default : goal.returns-in_default
unfolding sets_fault
returns-in_default c = grind (arith, common_steps)

pub returns-in_default-2 : goal.returns-in_default-2
unfolding sets_fault
returns-in_default-2 c = grind (arith, common_steps)

pub returns-in-1-to-9 : goal.returns-in-1-to-9
unfolding sets_fault
returns-in-1-to-9 c = grind (arith, common_steps)

pub returns-in-1-to-9-2 : goal.returns-in-1-to-9-2
unfolding sets_fault
returns-in-1-to-9-2 c = grind (arith, common_steps)
