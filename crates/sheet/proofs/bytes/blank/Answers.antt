-- `sheet::bytes::blank` meets its contract: after i bytes the common bits are FF exactly where those are blank. Assumes nothing.
use mathlib.Core.Path.{refl, sym, ap, ◌∙◌}
use mathlib.Core.Bool.{Bool, ◌&&◌}
use Prim.Native.Nat.{◌<◌}
use native.Mathlib.Omega.{arith}
use lib.Bits.{and_le_l}
use lib.Dec.{eqb}
use lib.ListN.{get_or}
use Rattle.sheet.specs.Bytes.{FF, all_blank}
use Rattle.sheet.proofs.Blank.{blank-more, common-full}
use Rattle.sheet.proofs.bytes.blank.Goals as goal

pub loop-byte-init : goal.loop-byte-init
unfolding all_blank
loop-byte-init c = (omega arith, refl)

pub loop-byte-preserved : goal.loop-byte-preserved
loop-byte-preserved c =
    let part = c.args.part.now in
    let l = c.loop-byte in
    let b = get_or part l.byte-index 0 in
    let byte : b < 256 = omega (arith, c.type_inv.part l.byte-index) in (
      omega (arith, and_le_l l.common b),
      common-full FF l.common b (omega arith) (omega arith)
          ∙ ap (λ (t : Bool). t && eqb b FF) l.invariant.1
          ∙ sym (blank-more part l.byte-index (omega arith)),
    )
