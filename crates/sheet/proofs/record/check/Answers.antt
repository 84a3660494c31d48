-- `sheet::record::check` meets its contract: each return rewrites the definition with the tests that led there. Assumes nothing.
use borrow.Author.Tests.{le-ltb, lt-ltb}
use mathlib.Core.Path.{sym, ◌∙◌}
use Rattle.frame.specs.Faults.{first_of}
use Rattle.sheet.proofs.record.check.Goals as goal

pub returns-then-head-gt15 : goal.returns-then-head-gt15
unfolding first_of
returns-then-head-gt15 c = simp (lt-ltb _ _ c.if-head-gt15.true)

pub returns-then-head-gt999 : goal.returns-then-head-gt999
unfolding first_of
returns-then-head-gt999 c = simp (le-ltb _ _ c.if-head-gt15.false, lt-ltb _ _ c.if-head-gt999.true)

pub returns-then-formed : goal.returns-then-formed
unfolding first_of
returns-then-formed c =
    simp
    (le-ltb _ _ c.if-head-gt15.false, le-ltb _ _ c.if-head-gt999.false, sym c.formed.ensures ∙ c.if-formed.true)

pub returns : goal.returns
unfolding first_of
returns c =
    simp
    (le-ltb _ _ c.if-head-gt15.false, le-ltb _ _ c.if-head-gt999.false, sym c.formed.ensures ∙ c.if-formed.false)
