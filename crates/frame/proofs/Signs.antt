-- Signed numbers as the machine keeps them, where they are small enough to be themselves. Assumes nothing.
use mathlib.Core.Path.{◌≡◌, refl, ap, ◌∙◌}
use Prim.Native.Nat.{ℕ, zero, suc, ◌-◌, ◌^◌, ◌<◌, ◌≤◌}
use native.Mathlib.Omega.{arith}
use borrow.Author.Tests.{le-leb}
use lib.IntN.{ℤ, pos, negsuc, neg_ℤ, ◌-ℤ◌}
use mir.Syntax.{w16, w32}
use mir.Val.{SFits, to_z, of_z}
use mir.Facts.{to_z-of_z, sfits_widen}
use Rattle.frame.specs.Temperature.{magnitude}

-- a number of 16 bits widened to 32 is itself
pub widened : (d : ℤ) → SFits w16 d → to_z w32 (of_z w32 (to_z w16 (of_z w16 d))) ≡ d
widened d h =
    ap (λ (z : ℤ). to_z w32 (of_z w32 z)) (to_z-of_z {w = w16} h) ∙ to_z-of_z {w = w32} (sfits_widen {w = w16} {w' = w32} tt h)

-- nothing less a number is the number of the other sign
pub minus_is : (m : ℕ) → pos 0 -ℤ pos m ≡ neg_ℤ (pos m)
minus_is zero = refl
minus_is (suc m) = simp (le-leb 1 (suc m) (omega arith)) (ap negsuc less)
  where
    less : suc m - 1 ≡ m
    less = omega arith

pub minus-small : (m : ℕ) → m < 2 ^ 15 → SFits w16 (neg_ℤ (pos m))
minus-small zero h = record { sfits = omega arith }
minus-small (suc m) h = record { sfits = omega arith }

pub magnitude-small : (d : ℤ) → SFits w16 d → magnitude d ≤ 2 ^ 15
magnitude-small (pos n) h = omega (arith, h.sfits)
magnitude-small (negsuc n) h = omega (arith, h.sfits)
