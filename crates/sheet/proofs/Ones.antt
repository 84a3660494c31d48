-- All ones of a word, shifted down. Assumes nothing.
use mathlib.Core.Path.{◌≡◌, sym, ap, ◌∙◌}
use Prim.Native.Nat.{ℕ, ◌+◌, ◌-◌, ◌/◌, ◌^◌, ◌≤◌}
use native.Mathlib.Omega.{arith}
use lib.Pow.{ones_split, ones_lt, high}

pub ones-shifted : (n : ℕ) → n ≤ 64 → (2 ^ 64 - 1) / 2 ^ n ≡ 2 ^ (64 - n) - 1
ones-shifted n h =
    let whole : 64 - n + n ≡ 64 = omega arith in
    ap (λ (m : ℕ). m / 2 ^ n) (ap (λ (m : ℕ). 2 ^ m - 1) (sym whole) ∙ ones_split (64 - n) n)
    ∙ high (2 ^ (64 - n) - 1) n (ones_lt n)
