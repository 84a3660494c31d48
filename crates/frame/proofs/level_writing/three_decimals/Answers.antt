-- `frame::level_writing::three_decimals` meets its contract: the codes of three digits in one sum. Assumes nothing.
use native.Mathlib.Omega.{arith}
use Rattle.frame.specs.Inside.Packed.{chart_of}
use Rattle.frame.proofs.Straight.{above-10, above_more}
use Rattle.frame.proofs.level_writing.three_decimals.Goals as goal

pub ones_code-requires : goal.ones_code-requires
ones_code-requires c = above-10 c.args.v

pub ones_code-requires-2 : goal.ones_code-requires-2
ones_code-requires-2 c = above_more c.args.v 10

pub ones_code-requires-3 : goal.ones_code-requires-3
ones_code-requires-3 c = above_more c.args.v 100

pub returns : goal.returns
unfolding chart_of
returns c =
    (rw (c.ones_code.ensures.0, c.ones_code-2.ensures.0, c.ones_code-3.ensures.0), omega arith)
