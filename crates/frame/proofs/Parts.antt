-- Bytes stored into an output, one part after another: what crates above put is said by these. Assumes nothing.
use mathlib.Core.Path.{◌≡◌, sym, ap, ◌∙◌}
use mathlib.Core.List.{List, [], ◌∷◌, ◌++◌}
use Prim.Native.Nat.{ℕ, suc, ◌+◌, ◌<◌}
use native.Mathlib.Nat.{add-zero}
use native.Mathlib.Numerals.{add-one}
use native.Mathlib.Omega.{arith}
use lib.ListN.{length, get_or, take, set}
use lib.Seq.{sets, take-suc, length-take-le}

-- a part after a part is their join
pub sets-append : (vs ws l : List ℕ) (i : ℕ) → sets (sets l i vs) (i + length vs) ws ≡ sets l i (vs ++ ws)
sets-append [] ws l i = ap (λ (k : ℕ). sets l k ws) (add-zero i)
sets-append (v ∷ vs) ws l i =
    let next : i + suc (length vs) ≡ suc i + length vs = omega arith in
    ap (λ (k : ℕ). sets (sets (set l i v) (suc i) vs) k ws) next ∙ sets-append vs ws (set l i v) (suc i)

-- one byte more of a part, at the place after those already put
pub sets-next : (t l : List ℕ) (at i : ℕ) → i < length t → set (sets l at (take i t)) (at + i) (get_or t i 0) ≡ sets l at (take (i + 1) t)
sets-next t l at i h =
    let whole : take (i + 1) t ≡ take i t ++ get_or t i 0 ∷ [] = ap (λ (k : ℕ). take k t) (add-one i) ∙ take-suc t i 0 h in
    let place : at + length (take i t) ≡ at + i = ap (λ (k : ℕ). at + k) (length-take-le i t (omega arith)) in
    ap (λ (k : ℕ). set (sets l at (take i t)) k (get_or t i 0)) (sym place) ∙ sets-append (take i t) (get_or t i 0 ∷ []) l at ∙ ap (sets l at) (sym whole)
