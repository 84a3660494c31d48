-- `frame::charts::size` meets its contract: the number of values of each chart is computed, arm by arm. Assumes nothing.
use Rattle.frame.specs.Charts.{one_bit, two_bits, feet_tens, decimal, inches, sixteenths}
use Rattle.frame.specs.Inside.Packed.{chart_of}
use Rattle.frame.proofs.Tables.{else-sixteenths}
use Rattle.frame.proofs.charts.size.Goals as goal

pub returns-in-0 : goal.returns-in-0
unfolding chart_of one_bit
returns-in-0 c = rw c.in-0.is

pub returns-in-1 : goal.returns-in-1
unfolding chart_of two_bits
returns-in-1 c = rw c.in-1.is

pub returns-in-2 : goal.returns-in-2
unfolding chart_of feet_tens
returns-in-2 c = rw c.in-2.is

pub returns-in-3 : goal.returns-in-3
unfolding chart_of decimal
returns-in-3 c = rw c.in-3.is

pub returns-in-4 : goal.returns-in-4
unfolding chart_of inches
returns-in-4 c = rw c.in-4.is

pub returns-in_default : goal.returns-in_default
unfolding sixteenths
returns-in_default c =
    let r = c.in_default.in_default-own.rest in
    rw (else-sixteenths _ r.0.0.0.0.1 r.0.0.0.1 r.0.0.1 r.0.1 r.1)
