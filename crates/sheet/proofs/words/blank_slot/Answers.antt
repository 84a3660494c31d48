-- `sheet::words::blank_slot` meets its contract: each word is all ones exactly where its bytes are blank, and the bits that words have in common are
-- exactly where all of them are. Assumes nothing.
use mathlib.Core.Path.{refl, sym, ap, ◌∙◌}
use mathlib.Core.Bool.{Bool, ◌&&◌}
use Prim.Native.Nat.{◌-◌, ◌^◌}
use borrow.Author.Tests.{eq-eqb, ne_eqb}
use lib.Bits.{bit_and}
use lib.Dec.{eqb}
use lib.ListN.{take, drop}
use Rattle.sheet.specs.Bytes.{number_in}
use Rattle.sheet.proofs.BlankWords.{whole-slot}
use Rattle.sheet.proofs.words.blank_slot.Goals as goal

pub returns-then-number-eq4294967295 : goal.returns-then-number-eq4294967295
returns-then-number-eq4294967295 c =
    let n3 = c.number-then-number-eq4294967295 in
    let n4 = c.number-then-number-eq4294967295-2 in
    let n5 = c.number-then-number-eq4294967295-3 in
    sym
    (whole-slot c.args.part.now c.fits-part c.told-part c.number.result c.number-2.result n3.result n4.result n5.result
    c.number.ensures c.number-2.ensures n3.ensures n4.ensures n5.ensures
    ∙ ap (λ (t : Bool). t && eqb (bit_and (bit_and n3.result n4.result) n5.result) (2 ^ 64 - 1)) (eq-eqb _ _ c.if-number-eq4294967295.true))

pub returns-else-number-eq4294967295 : goal.returns-else-number-eq4294967295
returns-else-number-eq4294967295 c =
    let x = c.args.part.now in
    let c3 = number_in (take 8 (drop 8 x)) in
    let c4 = number_in (take 8 (drop 16 x)) in
    let c5 = number_in (take 8 (drop 24 x)) in
    ne_eqb _ _ c.if-number-eq4294967295.false
    ∙ sym
    (whole-slot x c.fits-part c.told-part c.number.result c.number-2.result c3 c4 c5 c.number.ensures c.number-2.ensures refl refl refl
    ∙ ap (λ (t : Bool). t && eqb (bit_and (bit_and c3 c4) c5) (2 ^ 64 - 1)) (ne_eqb _ _ c.if-number-eq4294967295.false))
