-- `listing::hand_over` meets its contract: the line stands first in the output, or the output is too short. Assumes nothing.
use mathlib.Core.Path.{refl}
use mathlib.Core.Bool.{true}
use lib.ListN.{length}
use borrow.Author.Rules.{rules}
use Rattle.putting.proofs.Added.{left-behind}
use Rattle.listing.proofs.Answers.{refused-15, written}
use Rattle.listing.proofs.hand_over.Goals as goal

pub returns-then-out-line : goal.returns-then-out-line
returns-then-out-line c =
    let a = c.args in
    refused-15 (length a.line.now) a.line.now a.out.now true refl c.if-out-line.true

pub returns : goal.returns
returns c =
    let a = c.args in
    written (length a.line.now) (length a.line.now) a.line.now a.out.now _ _ true refl c.if-out-line.false c.if-out-line.false (left-behind c.word.ensures (search rules))
