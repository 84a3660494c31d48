-- The last arm of a match on a number: one that is none of those below n, and below n + 1, is n. Assumes nothing.
use mathlib.Core.Path.{◌≡◌}
use Prim.Native.Nat.{ℕ, zero, suc, ◌<◌, ◌≤◌}
use native.Mathlib.Omega.{arith}

abbrev pub NoneBelow : ℕ → ℕ → Type 0
NoneBelow k zero = Unit {0}
NoneBelow k (suc n) = NoneBelow k n × (k ≡ n → ⊥)

at_least : (k n : ℕ) → NoneBelow k n → n ≤ k
at_least k zero none = omega arith
at_least k (suc n) none = over n k (at_least k n none.0) none.1
  where
    over : (n k : ℕ) → n ≤ k → (k ≡ n → ⊥) → suc n ≤ k
    over n k h d = omega arith

pub last-key : (k n : ℕ) → k < suc n → NoneBelow k n → k ≡ n
last-key k n h none = between k n h (at_least k n none)
  where
    between : (k n : ℕ) → k < suc n → n ≤ k → k ≡ n
    between k n h g = omega arith
