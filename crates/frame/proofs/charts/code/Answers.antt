-- `frame::charts::code` meets its contract: straight or turned, the place is below the chart's size. Assumes nothing.
use native.Mathlib.Omega.{arith}
use Rattle.frame.specs.Charts.{turned}
use Rattle.frame.proofs.charts.code.Goals as goal

pub code_at-requires : goal.code_at-requires
code_at-requires c = omega (arith, c.size.ensures)

pub returns-then-odd : goal.returns-then-odd
unfolding turned
returns-then-odd c = simp (c.code_at.ensures, c.size.ensures, c.if-odd.true)

pub returns : goal.returns
unfolding turned
returns c = simp (c.code_at-2.ensures, c.if-odd.false)
