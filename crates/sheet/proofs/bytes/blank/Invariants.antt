-- `sheet::bytes::blank` meets its contract: after i bytes the common bits are FF exactly where those are blank. Assumes nothing.
use Rattle.std.proofs.Common.{◌≡◌, ◌<◌, take}
use lib.Dec.{eqb}
use Rattle.sheet.specs.Bytes.{FF, all_blank}
use Rattle.sheet.proofs.bytes.blank.Given as goal

abbrev pub invariant-loop-byte : goal.invariant-loop-byte
invariant-loop-byte l = (l.common < 256) × (eqb l.common FF ≡ all_blank (take l.byte-index l.part))
