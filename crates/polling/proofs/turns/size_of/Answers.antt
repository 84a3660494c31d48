-- `polling::turns::size_of` meets its contract: each return is the count of samples by the test that led there.
use Rattle.std.proofs.Common.{true, false, sym, ◌∙◌, arith}
use borrow.Author.Tests.{lt-ltb, le-ltb}
use Rattle.polling.proofs.Sizes.{try-long}
use Rattle.polling.proofs.turns.size_of.Goals as goal

pub returns-then-address-gt999 : goal.returns-then-address-gt999
returns-then-address-gt999 c =
    let a = c.args in
    sym (try-long a.p a.address true (lt-ltb 999 a.address c.if-address-gt999.true) ∙ omega arith)

pub returns : goal.returns
returns c =
    let a = c.args in
    sym (try-long a.p a.address false (le-ltb 999 a.address c.if-address-gt999.false))
