-- `frame::heat::degrees_at` meets its contract: no number tells a digit above 9; else the number is that of the three digits with its
-- hundreds, and it and its negative fit 16 bits. Assumes nothing.
use Rattle.std.proofs.Common.{◌≡◌, sym, ℕ, ◌+◌, ◌*◌, true, false, Some, None, arith}
use borrow.Author.Tests.{ne_eqb}
use mir.Syntax.{w16}
use mir.Facts.{to_z-of_z, to_z_pos}
use Rattle.frame.specs.Line.{bit, field, three_decimal, three_digits}
use Rattle.frame.specs.Inside.Packed.{three_by}
use Rattle.frame.proofs.Signs.{minus_is, minus-small}
use Rattle.frame.proofs.Three.{was-bad, was-good}
use Rattle.frame.proofs.heat.degrees_at.Goals as goal

-- the digits at bits 44 to 55
is-bad : (n : ℕ) → three_by n 9 ≡ None → three_decimal n 44 ≡ false
unfolding three_by
is-bad n e = was-bad (field n 44 47) (field n 48 51) (field n 52 55) e

is-good : (n m : ℕ) → Some m ≡ three_by n 9 → (three_decimal n 44 ≡ true) × (three_digits n 44 ≡ m)
unfolding three_by
is-good n m e = was-good (field n 44 47) (field n 48 51) (field n 52 55) m (sym e)

pub returns-in_err-d : goal.returns-in_err-d
returns-in_err-d c = rw (c.from_residual.ensures, is-bad c.args.n (sym c.in_err-d.ensures.value))

pub returns-then-plus : goal.returns-then-plus
returns-then-plus c =
    let a = c.args in
    let m = c.in_ok-d.field-0 in
    let good = is-good a.n m c.in_ok-d.ensures.value in
    rw (to_z_pos w16 {n = a.hundreds * 1000 + m} (omega (arith, c.requires, c.in_ok-d.ensures.bound)), good.0, c.if-plus.true, good.1)

pub returns-else-plus : goal.returns-else-plus
returns-else-plus c =
    let a = c.args in
    let m = c.in_ok-d.field-0 in
    let good = is-good a.n m c.in_ok-d.ensures.value in
    let v = a.hundreds * 1000 + m in
    rw (to_z_pos w16 {n = v} (omega (arith, c.requires, c.in_ok-d.ensures.bound)), minus_is v, to_z-of_z {w = w16} (minus-small v (omega (arith, c.requires, c.in_ok-d.ensures.bound))), good.0, ne_eqb (bit a.n 41) 1 c.if-plus.false, good.1)
