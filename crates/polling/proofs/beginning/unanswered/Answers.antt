-- `polling::beginning::unanswered` meets its contract: the eight zeros are those of a reply of 0 bits.
use mathlib.Core.Path.{refl}
use Rattle.frame.specs.Line.{first_bytes}
use Rattle.polling.proofs.beginning.unanswered.Goals as goal

pub returns : goal.returns
unfolding first_bytes
returns c = refl
