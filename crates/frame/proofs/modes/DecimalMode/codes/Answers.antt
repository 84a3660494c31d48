-- `frame::modes::DecimalMode::codes` meets its contract: the codes of its digits in one sum. Assumes nothing.
use mathlib.Core.Path.{sym}
use native.Mathlib.Omega.{arith}
use Rattle.frame.specs.Inside.Packed.{chart_of}
use Rattle.frame.proofs.Straight.{decimal-up}
use Rattle.frame.proofs.modes.DecimalMode.codes.Goals as goal

pub returns : goal.returns
unfolding chart_of
returns c =
    (rw (c.three_decimals.ensures.0, c.first_code.ensures.0) (sym (decimal-up c.args.v)), omega arith)
