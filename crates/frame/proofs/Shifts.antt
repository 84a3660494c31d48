-- Shifts: a one shifted by less than the width stays whole, and a word's first bit by its size. Assumes nothing.
use mathlib.Core.Path.{◌≡◌, ◌∙◌}
use mathlib.Core.Bool.{true, false}
use Prim.Native.Nat.{ℕ, ◌*◌, ◌%◌, ◌^◌, ◌<◌, ◌≤◌}
use native.Mathlib.Nat.{one-mul}
use native.Mathlib.Omega.{arith}
use borrow.Author.Tests.{eq-eqb, ne_eqb}
use lib.Dec.{eqb, lit<}
use lib.Pow.{shl_exact}
use Rattle.frame.specs.Line.{bit}

pub one_shl : (w k : ℕ) → k < w → 1 * 2 ^ k % 2 ^ w ≡ 2 ^ k
one_shl w k h = shl_exact {a = 1} 1 k w (lit< tt) (omega arith) ∙ one-mul (2 ^ k)

-- a line begins with a 1, or not
pub without-start : (n : ℕ) → n < 2 ^ 63 → eqb (bit n 1) 0 ≡ true
without-start n h = let e : bit n 1 ≡ 0 = omega arith in eq-eqb (bit n 1) 0 e

pub with-start : (n : ℕ) → 2 ^ 63 ≤ n → n < 2 ^ 64 → eqb (bit n 1) 0 ≡ false
with-start n h w = ne_eqb (bit n 1) 0 (λ e. omega arith)
