-- `listing::lines::put_record` meets its contract: its parts are put one after another, and the reply reads as its contract says. Assumes nothing.
use mathlib.Core.Path.{ap}
use native.Mathlib.Omega.{arith}
use Rattle.listing.specs.Lines.{reply_text, record_text}
use Rattle.listing.proofs.Numbers.{few-digits}
use Rattle.putting.proofs.Added.{then, text-is}
use Rattle.listing.proofs.lines.put_record.Goals as goal

pub put_number-requires : goal.put_number-requires
put_number-requires c =
    omega (arith, few-digits 9 c.args.head.minute (omega (arith, c.well_formed)))

pub returns : goal.returns
unfolding record_text
returns c =
    then (then (then (then c.put_number.ensures c.byte.ensures) c.put_short.ensures) c.byte-2.ensures)
    (text-is (ap reply_text c.read_reply.ensures.answers) c.put_reply.ensures)
