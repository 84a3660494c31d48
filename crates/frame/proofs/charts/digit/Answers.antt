-- `frame::charts::digit` meets its contract: each return rewrites the definition with the tests that led there. Assumes nothing.
use mathlib.Core.Path.{sym}
use borrow.Author.Tests.{lt-ltb, le-ltb}
use Rattle.frame.specs.Charts.{turned}
use Rattle.frame.specs.Inside.Packed.{digit_of}
use Rattle.frame.proofs.charts.digit.Goals as goal

pub returns-then-values-at : goal.returns-then-values-at
unfolding digit_of
returns-then-values-at c = simp (sym c.place-at.ensures, sym c.size-values.ensures, le-ltb _ _ c.if-values-at.true)

pub returns-then-odd : goal.returns-then-odd
unfolding digit_of turned
returns-then-odd c =
    simp (sym c.place-at.ensures, sym c.size-values.ensures, lt-ltb _ _ c.if-values-at.false, c.if-odd.true)

pub returns : goal.returns
unfolding digit_of turned
returns c =
    simp (sym c.place-at.ensures, sym c.size-values.ensures, lt-ltb _ _ c.if-values-at.false, c.if-odd.false)
