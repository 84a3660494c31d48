-- `frame::line::bytes_of` meets its contract: each byte is the field of the definition. Assumes nothing.
use native.Mathlib.Nat.{div-one}
use Rattle.frame.specs.Line.{first_bytes}
use Rattle.frame.proofs.line.bytes_of.Goals as goal

pub returns : goal.returns
unfolding first_bytes
returns c = simp div-one c.to_be_bytes.ensures
