-- A number that is not within a range is below it or above it. Assumes nothing.
use mathlib.Core.Path.{◌≡◌, refl, sym, ap₂, ◌∙◌}
use mathlib.Core.Bool.{Bool, true, false, not, ◌&&◌, ◌||◌}
use Prim.Native.Nat.{ℕ}
use borrow.Author.Tests.{leb-true, leb-false, le-ltb, lt-ltb}
use lib.Dec.{leb, ltb}
use Rattle.frame.specs.Pick.{within}

not_least : (a b : ℕ) → not (leb a b) ≡ ltb b a
not_least a b = go (leb a b) refl
  where
    go : (t : Bool) → leb a b ≡ t → not t ≡ ltb b a
    go true e = sym (le-ltb b a (leb-true a b e))
    go false e = sym (lt-ltb b a (leb-false a b e))

either : (x y : Bool) → not (x && y) ≡ (not x || not y)
either true y = refl
either false y = refl

pub outside : (low high n : ℕ) → not (within low high n) ≡ (ltb n low || ltb high n)
outside low high n = either (leb low n) (leb n high) ∙ ap₂ (λ (x y : Bool). x || y) (not_least low n) (not_least n high)
