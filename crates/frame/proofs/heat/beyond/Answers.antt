-- `frame::heat::beyond` meets its contract: each return rewrites the definition with what the two error bits are then. Assumes nothing.
use mathlib.Core.Path.{◌≡◌}
use native.Mathlib.Omega.{arith}
use borrow.Author.Tests.{eq-eqb, ne_eqb}
use Rattle.frame.specs.Line.{bit}
use Rattle.frame.specs.Temperature.{heat1800}
use Rattle.frame.proofs.heat.beyond.Goals as goal

pub returns-then-n-eq0 : goal.returns-then-n-eq0
unfolding heat1800
returns-then-n-eq0 c =
    let n = c.args.n in
    let some = c.requires c.if-n-eq0.true in
    let clear : bit n 43 ≡ 1 → ⊥ = omega (arith, c.if-n-eq0.true) in
    let set : bit n 40 ≡ 1 = omega (arith, some) in
    simp (ne_eqb (bit n 43) 1 clear, eq-eqb (bit n 40) 1 set)

pub returns-then-n-eq1 : goal.returns-then-n-eq1
unfolding heat1800
returns-then-n-eq1 c =
    let n = c.args.n in
    let error : bit n 43 ≡ 1 = omega (arith, c.if-n-eq0.false) in
    simp (eq-eqb (bit n 43) 1 error, eq-eqb (bit n 40) 1 c.if-n-eq1.true)

pub returns : goal.returns
unfolding heat1800
returns c =
    let n = c.args.n in
    let error : bit n 43 ≡ 1 = omega (arith, c.if-n-eq0.false) in
    simp (eq-eqb (bit n 43) 1 error, ne_eqb (bit n 40) 1 c.if-n-eq1.false)
