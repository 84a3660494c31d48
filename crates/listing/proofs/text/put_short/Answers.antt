-- `listing::text::put_short` meets its contract: a number of 16 bits has at most five digits. Assumes nothing.
use mathlib.Core.Path.{◌≡◌, ap}
use native.Mathlib.Omega.{arith}
use Rattle.listing.specs.Text.{in_decimal}
use Rattle.listing.proofs.Numbers.{few-digits}
use Rattle.putting.proofs.Added.{text-is}
use Rattle.listing.proofs.text.put_short.Goals as goal

pub put_number-requires : goal.put_number-requires
put_number-requires c =
    let same : c.from.result ≡ c.args.n = c.from.ensures in
    rw same (omega (arith, few-digits 4 c.args.n (omega (arith, c.ranges.n))))

pub returns : goal.returns
returns c =
    let same : c.from.result ≡ c.args.n = c.from.ensures in
    let put = text-is (ap in_decimal same) c.put_number.ensures in
    record { same = put.same; keeps = put.keeps; ends = put.ends; leaves = put.leaves; within = few-digits 4 c.args.n (omega (arith, c.ranges.n)) }
