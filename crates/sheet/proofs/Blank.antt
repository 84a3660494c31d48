-- Blank bytes, one more at a time, and by their bits. Assumes nothing.
use mathlib.Core.Path.{◌≡◌, refl, sym, ap, ◌∙◌}
use mathlib.Core.Bool.{Bool, true, false, ◌&&◌, and_assoc, and-true}
use mathlib.Core.List.{List, [], ◌∷◌, ◌++◌}
use Prim.Native.Nat.{ℕ, ◌+◌, ◌<◌, ◌≤◌}
use native.Mathlib.Numerals.{add-one}
use native.Mathlib.Omega.{arith}
use borrow.Author.Tests.{eq-eqb, ne_eqb, eqb-true, eqb-false}
use lib.Bits.{bit_and, and_le_l, and_le_r, and_self}
use lib.Dec.{eqb}
use lib.ListN.{length, get_or, take}
use lib.Seq.{take-suc}
use Rattle.sheet.specs.Bytes.{FF, all_blank}

pub blank-append : (xs ys : List ℕ) → all_blank (xs ++ ys) ≡ (all_blank xs && all_blank ys)
unfolding all_blank
blank-append [] ys = refl
blank-append (x ∷ xs) ys = ap (λ (t : Bool). eqb x FF && t) (blank-append xs ys) ∙ sym (and_assoc (eqb x FF) (all_blank xs) (all_blank ys))

-- One byte more.
pub blank-more : (xs : List ℕ) (i : ℕ) → i < length xs → all_blank (take (i + 1) xs) ≡ (all_blank (take i xs) && eqb (get_or xs i 0) FF)
unfolding all_blank
blank-more xs i h =
    ap (λ (n : ℕ). all_blank (take n xs)) (add-one i) ∙ ap all_blank (take-suc xs i 0 h) ∙ blank-append (take i xs) (get_or xs i 0 ∷ [])
    ∙ ap (λ (t : Bool). all_blank (take i xs) && t) (and-true (eqb (get_or xs i 0) FF))

-- The bits that two numbers have in common are the largest number exactly where both are it.
pub common-full : (m a b : ℕ) → a ≤ m → b ≤ m → eqb (bit_and a b) m ≡ (eqb a m && eqb b m)
common-full m a b ha hb = go (eqb a m) (eqb b m) refl refl
  where
    go : (s t : Bool) → eqb a m ≡ s → eqb b m ≡ t → eqb (bit_and a b) m ≡ (s && t)
    go true true p q = eq-eqb (bit_and a b) m ((λ i. bit_and (eqb-true a m p i) (eqb-true b m q i)) ∙ and_self m)
    go true false p q =
        let other : b ≡ m → ⊥ = eqb-false b m q in
        ne_eqb (bit_and a b) m (omega (arith, and_le_r a b))
    go false t p q =
        let other : a ≡ m → ⊥ = eqb-false a m p in
        ne_eqb (bit_and a b) m (omega (arith, and_le_l a b))

-- A row that does not begin with FF is not blank.
pub blank-first : (xs : List ℕ) → 0 < length xs → eqb (get_or xs 0 0) FF ≡ false → all_blank xs ≡ false
unfolding all_blank
blank-first [] h e = absurd (omega arith)
blank-first (x ∷ xs) h e = ap (λ (t : Bool). t && all_blank xs) e
