-- Totals over transmitters, one more at a time. Assumes nothing.
use mathlib.Core.Path.{◌≡◌, ap, ◌∙◌}
use mathlib.Core.List.{List, [], ◌∷◌, ◌++◌}
use Prim.Native.Nat.{ℕ, ◌+◌, ◌<◌}
use native.Mathlib.Numerals.{add-one}
use native.Mathlib.Omega.{arith}
use lib.ListN.{length, get_or, take}
use lib.Seq.{take-suc}
use Rattle.areas.specs.Site.{total}

pub total-append : (f : ℕ → ℕ) (a b : List ℕ) → total f (a ++ b) ≡ total f a + total f b
unfolding total
total-append f [] b = omega arith
total-append f (t ∷ a) b =
    let h = total-append f a b in
    omega arith

pub total-next : (f : ℕ → ℕ) (s : List ℕ) (i : ℕ) → i < length s → total f (take (i + 1) s) ≡ total f (take i s) + f (get_or s i 0)
unfolding total
total-next f s i h =
    let one = ap (total f) (ap (λ (k : ℕ). take k s) (add-one i) ∙ take-suc s i 0 h) ∙ total-append f (take i s) (get_or s i 0 ∷ []) in
    omega arith
