-- `lines::state::legal` meets its contract: one of the four. Assumes nothing.
use Rattle.lines.specs.SoFar.{legal}
use Rattle.lines.proofs.state.legal.Goals as goal

pub returns : goal.returns
unfolding legal
returns c = cc
