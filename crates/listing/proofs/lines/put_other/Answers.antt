-- `listing::lines::put_other` meets its contract: the number, then the word. Assumes nothing.
use Rattle.putting.proofs.Added.{then}
use Rattle.listing.proofs.lines.put_other.Goals as goal

pub returns : goal.returns
returns c =
    then c.put_short.ensures c.word.ensures
