-- `frame::level_writing::five_digits` meets its contract: the codes of five digits in one sum. Assumes nothing.
use mathlib.Core.Path.{sym}
use native.Mathlib.Omega.{arith}
use Rattle.frame.specs.Inside.Packed.{chart_of}
use Rattle.frame.proofs.Straight.{five-up, above_more}
use Rattle.frame.proofs.level_writing.five_digits.Goals as goal

pub ones_code-requires : goal.ones_code-requires
ones_code-requires c = above_more c.args.v 1000

pub returns : goal.returns
unfolding chart_of
returns c =
    (rw (c.three_decimals.ensures.0, c.ones_code.ensures.0, c.first_code.ensures.0) (sym (five-up c.args.top c.requires c.args.start c.args.v)), omega arith)
