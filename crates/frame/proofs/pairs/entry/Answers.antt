-- `frame::pairs::entry` meets its contract: the byte that it takes out of a word is the table's entry, by the rule over all entries. Assumes
-- nothing.
use Rattle.std.proofs.Common.{true, false}
use Rattle.frame.proofs.PairTable.{words-rule}
use Rattle.frame.proofs.pairs.entry.Goals.{then-odd, else-odd}
use Rattle.frame.proofs.pairs.entry.Goals as goal

pub returns : goal.returns
returns c =
    elim c.if-odd.branch [
      | then-odd w ↦ rw (w.word-is, c.eight-straight.ensures, w.if-odd.true) (words-rule true c.args.codes c.requires)
      | else-odd w ↦ rw (w.word-is, c.eight-straight.ensures, w.if-odd.false) (words-rule false c.args.codes c.requires)
    ]
