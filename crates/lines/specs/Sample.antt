-- Document 02, request 01: one byte each, 0 idle, 1 mark low, 2 space low, 3 both low. A byte above 3 counts as both lines low; it is told apart by the
-- number of the report alone.
use Rattle.std.specs.Prelude.{ℕ, eqb}
use Rattle.frame.specs.Pick.{pick}

pub data Sample : Type 0 where
  idle : Sample
  mark : Sample
  space : Sample
  both : Sample
  foreign : Sample

abbrev pub sample_of : ℕ → Sample
sample_of b = pick (eqb b 0) idle (pick (eqb b 1) mark (pick (eqb b 2) space (pick (eqb b 3) both foreign)))
