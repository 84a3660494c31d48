-- `frame::charts::decimal_code` meets its contract: 9 by its own code, every smaller digit by the formula. Assumes nothing.
use mathlib.Core.Path.{sym, ap, ◌∙◌}
use Prim.Native.Nat.{ℕ}
use native.Mathlib.Omega.{arith}
use lib.ListN.{get_or}
use Rattle.frame.specs.Charts.{decimal}
use Rattle.frame.proofs.DecimalCode.{half-combined, nine-alone}
use Rattle.frame.proofs.charts.decimal_code.Goals as goal

pub returns-then-at-eq9 : goal.returns-then-at-eq9
returns-then-at-eq9 c = sym (ap (λ (at : ℕ). get_or decimal.codes at 0) c.if-at-eq9.true ∙ nine-alone)

pub returns : goal.returns
returns c = half-combined c.args.at (omega arith)
