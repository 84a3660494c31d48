-- `listing::lines::put_count` meets its contract: the word, the number, the end of the line. Assumes nothing.
use native.Mathlib.Omega.{arith}
use Rattle.putting.proofs.Added.{then, at_most}
use Rattle.listing.proofs.lines.put_count.Goals as goal

pub returns : goal.returns
returns c =
    at_most (omega arith) (then (then c.word.ensures c.put_short.ensures) c.byte.ensures)
