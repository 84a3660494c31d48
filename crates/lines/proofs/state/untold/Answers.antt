-- `lines::state::untold` meets its contract: no bits are eight zeros. Assumes nothing.
use mathlib.Core.Path.{refl}
use Rattle.frame.specs.Line.{first_bytes}
use Rattle.lines.proofs.state.untold.Goals as goal

pub returns : goal.returns
unfolding first_bytes
returns c = refl
