-- `frame::line::Lent::word` meets its contract: the bytes make the word, and where a byte is not there the definition reads 0. Assumes nothing.
use Rattle.std.proofs.Common.{arith}
use lib.ListN.{get_or-eq_default}
use Rattle.frame.specs.Line.{line}
use Rattle.frame.proofs.line.Lent.word.Goals as goal

pub returns-in-Five : goal.returns-in-Five
unfolding line
returns-in-Five c =
    let s = c.in-Five.s.now in
    rw c.in-Five.is (omega (arith, c.from_be_bytes.ensures, get_or-eq_default s 0 {n = 5} (omega arith), get_or-eq_default s 0 {n = 6} (omega arith), get_or-eq_default s 0 {n = 7} (omega arith)))

pub returns-in-Seven : goal.returns-in-Seven
unfolding line
returns-in-Seven c =
    let s = c.in-Seven.s.now in
    rw c.in-Seven.is (omega (arith, c.from_be_bytes-in-Seven.ensures, get_or-eq_default s 0 {n = 7} (omega arith)))
