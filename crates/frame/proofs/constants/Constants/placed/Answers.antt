-- `frame::constants::Constants::placed` meets its contract: the shifted codes of a level within its mode fit the word. Assumes nothing.
use Rattle.std.proofs.Common.{◌+◌, arith}
use borrow.Author.Tests.{le-leb}
use lib.Pow.{shl_exact}
use Rattle.frame.proofs.constants.Constants.placed.Goals as goal

pub returns : goal.returns
returns c =
    let a = c.args in
    rw (shl_exact {a = a.codes} 20 (27 + a.self.after) 64 (omega (arith, c.requires)) (omega (arith, a.self.few_after)), le-leb a.v a.self.largest c.if-self-v.false)
