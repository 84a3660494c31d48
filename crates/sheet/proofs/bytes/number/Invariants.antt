-- `sheet::bytes::number` meets its contract. After i bytes `n` is the number that they write. It is below 256 to the i, so that one
-- byte more always fits. Assumes nothing.
use Rattle.std.proofs.Common.{◌≡◌, take}
use Rattle.sheet.specs.Bytes.{number_in}
use Rattle.sheet.proofs.bytes.number.Given as goal

abbrev pub invariant-loop-byte : goal.invariant-loop-byte
invariant-loop-byte l = l.n ≡ number_in (take l.byte-index l.part)
