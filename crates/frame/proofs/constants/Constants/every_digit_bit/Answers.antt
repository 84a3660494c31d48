-- `frame::constants::Constants::every_digit_bit` meets its contract: a one shifted up less one is every bit below it, and these fit the word where
-- they stand. Assumes nothing.
use Rattle.std.proofs.Common.{◌+◌, ◌<◌, arith}
use lib.Pow.{shl_exact, ones_lt}
use Rattle.frame.specs.Inside.Constants.{digit_bits}
use Rattle.frame.proofs.Shifts.{one_shl}
use Rattle.frame.proofs.constants.Constants.every_digit_bit.Goals as goal

pub returns : goal.returns
returns c =
    let k = c.args.self in
    let bits = digit_bits k.first k.after in
    let small : bits < 64 = omega arith in
    rw (one_shl 64 bits small, shl_exact bits (27 + k.after) 64 (ones_lt bits) (omega (arith, k.from_16, k.by_17, k.few_after)))
