-- `sheet::record::head_in` meets its contract: each field is read where the definition reads it, and a number of 4 or 2 bytes fits its type.
-- Assumes nothing.
use mathlib.Core.List.{List}
use Prim.Native.Nat.{ℕ, ◌<◌, ◌^◌}
use native.Mathlib.Omega.{arith}
use lib.ListN.{take, drop, length-take}
use Rattle.sheet.specs.Bytes.{number_in}
use Rattle.sheet.specs.Record.{fields_of}
use Rattle.sheet.proofs.Numbers.{AreBytes, number_lt, bytes_take, bytes_drop}
use Rattle.sheet.proofs.record.head_in.Goals as goal

-- a part of k bytes writes a number below 256 to the k
part-lt : (k from : ℕ) (part : List ℕ) → AreBytes part → number_in (take k (drop from part)) < 256 ^ k
part-lt k from part bytes =
    number_lt k (take k (drop from part)) (bytes_take k (drop from part) (bytes_drop from part bytes)) (simp length-take (omega arith))

pub overflow_cast-result : goal.overflow_cast-result
overflow_cast-result c =
    omega (arith, part-lt 4 4 c.args.part.now (λ i. c.fits-part i), c.number.ensures)

pub overflow_cast-result-2 : goal.overflow_cast-result-2
overflow_cast-result-2 c =
    omega (arith, part-lt 2 8 c.args.part.now (λ i. c.fits-part i), c.number-2.ensures)

pub returns : goal.returns
unfolding fields_of
returns c = cc
