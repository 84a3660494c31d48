-- `frame::heat::read` meets its contract: with an error bit it is an 1800 beyond its range, without one both types read degrees. Assumes
-- nothing.
use mathlib.Core.Path.{◌≡◌, refl, sym, ap, ◌∙◌}
use mathlib.Core.Bool.{Bool, true, false}
use Prim.Native.Nat.{ℕ, ◌+◌}
use native.Mathlib.Omega.{arith}
use borrow.Author.Tests.{ne_eqb}
use Rattle.frame.specs.Pick.{pick}
use Rattle.frame.specs.Line.{bit}
use Rattle.frame.specs.Temperature.{degrees_at, hundreds1900, heat1800, heat1900, heat_of}
use Rattle.frame.proofs.heat.read.Goals as goal

abbrev errors_of : Bool → ℕ → ℕ
errors_of b n = pick b (bit n 43 + bit n 40) 0

degrees-of : (b : Bool) (n : ℕ) → errors_of b n ≡ 0 → degrees_at n (pick b (bit n 42) (hundreds1900 n)) ≡ heat_of b n
unfolding heat1800 heat1900
degrees-of true n h =
    let clear : bit n 43 ≡ 1 → ⊥ = omega (arith, h) in
    let none : bit n 40 ≡ 1 → ⊥ = omega (arith, h) in
    simp (ne_eqb (bit n 43) 1 clear, ne_eqb (bit n 40) 1 none)
degrees-of false n h = refl

pub returns : goal.returns
returns c =
    let a = c.args in
    c.degrees_at.ensures ∙ ap (degrees_at a.n) c.hundreds.ensures.0
    ∙ degrees-of a.is_1800 a.n (sym c.errors.ensures ∙ c.if-errors-ne0.false)
