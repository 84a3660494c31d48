-- `frame::modes::FractionalMode::codes` meets its contract: the codes of its digits in one sum. Assumes nothing.
use mathlib.Core.Path.{sym}
use native.Mathlib.Omega.{arith}
use Rattle.frame.specs.Inside.Packed.{chart_of}
use Rattle.frame.proofs.Straight.{fractional-up, above-16, above-192, above_more}
use Rattle.frame.proofs.modes.FractionalMode.codes.Goals as goal

pub ones_code-requires : goal.ones_code-requires
ones_code-requires c = above-16 c.args.v

pub ones_code-requires-2 : goal.ones_code-requires-2
ones_code-requires-2 c = above-192 c.args.v

pub ones_code-requires-3 : goal.ones_code-requires-3
ones_code-requires-3 c = above_more c.args.v 192

pub returns : goal.returns
unfolding chart_of
returns c =
    (rw (c.ones_code.ensures.0, c.ones_code-2.ensures.0, c.ones_code-3.ensures.0, c.first_code.ensures.0) (sym (fractional-up c.args.v)), omega arith)
