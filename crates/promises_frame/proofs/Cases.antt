-- Ways to go by cases: on an order, on a bit, and on a test.
use mathlib.Core.Path.{◌≡◌, refl}
use mathlib.Core.Bool.{Bool, true, false, true≢false}
use Prim.Native.Nat.{ℕ, zero, suc, ◌<◌, ◌≤◌}
use native.Mathlib.Omega.{arith}
use lib.Dec.{eqb, leb, ltb}
use borrow.Author.Tests.{leb-true, leb-false, ltb-true, ltb-false, eqb-true, eqb-false}

pub by_le : {A : Type 0} (i k : ℕ) → (i ≤ k → A) → (k < i → A) → A
by_le {A} i k f g = go (leb i k) refl
  where
    go : (b : Bool) → leb i k ≡ b → A
    go true e = f (leb-true i k e)
    go false e = g (leb-false i k e)

pub by-lt : {A : Type 0} (i k : ℕ) → (i < k → A) → (k ≤ i → A) → A
by-lt {A} i k f g = go (ltb i k) refl
  where
    go : (b : Bool) → ltb i k ≡ b → A
    go true e = f (ltb-true i k e)
    go false e = g (ltb-false i k e)

-- A bit is 0 where it is not 1, and 1 where it is not 0.
pub not-1 : (b : ℕ) → b < 2 → eqb b 1 ≡ false → b ≡ 0
not-1 zero h e = refl
not-1 (suc zero) h e = absurd (true≢false e)
not-1 (suc (suc b)) h e = absurd (omega arith)

pub not-0 : (b : ℕ) → b < 2 → eqb b 0 ≡ false → b ≡ 1
not-0 zero h e = absurd (true≢false e)
not-0 (suc zero) h e = refl
not-0 (suc (suc b)) h e = absurd (omega arith)

-- A test that is not true is false.
pub not-true : (b : Bool) → ¬ (b ≡ true) → b ≡ false
not-true true h = absurd (h refl)
not-true false h = refl

-- Two numbers that are not unequal are equal.
pub stable : (a b : ℕ) → ¬ (¬ (a ≡ b)) → a ≡ b
stable a b h = go (eqb a b) refl
  where
    go : (t : Bool) → eqb a b ≡ t → a ≡ b
    go true e = eqb-true a b e
    go false e = absurd (h (eqb-false a b e))
