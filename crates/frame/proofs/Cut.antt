-- The fill of a line at a mode's first bit, and its digits cut out behind bit 15: a bit that is fill counts where the first bit stands after it, and
-- where it is 0 it does not change what stands below. Assumes nothing.
use mathlib.Core.Path.{◌≡◌, refl, sym, ap, subst, ◌∙◌}
use mathlib.Core.Bool.{Bool, true, false, ◌&&◌}
use Prim.Native.Nat.{ℕ, zero, suc, ◌+◌, ◌-◌, ◌*◌, ◌/◌, ◌%◌, ◌^◌, ◌≤◌}
use native.Mathlib.Nat.{zero-add, zero-mul, mod-one}
use native.Mathlib.Omega.{arith}
use borrow.Author.Tests.{ne_eqb, eqb-true, eqb-false}
use lib.Dec.{eqb}
use lib.Pow.{mod-pow-add, field}
use Rattle.frame.specs.declared.constants.Constants.{Constants}
use Rattle.frame.specs.Inside.Constants.{fill_at, digit_bits}
use Rattle.frame.proofs.Both.{both_left}

-- two numbers are 0 exactly if their sum is
pub both-clear : (h t : ℕ) → eqb (h + t) 0 ≡ (eqb h 0 && eqb t 0)
both-clear zero t = ap (λ (k : ℕ). eqb k 0) (zero-add t)
both-clear (suc h) t =
    let some : suc h ≡ 0 → ⊥ = omega arith in
    ne_eqb (suc h + t) 0 (omega arith) ∙ sym (ap (λ (b : Bool). b && eqb t 0) (ne_eqb (suc h) 0 some))

-- the digits begin at bit 16 or at bit 17
by_first : (P : ℕ → Type 0) → P 16 → P 17 → (first : ℕ) → 16 ≤ first → first ≤ 17 → P first
by_first P a b first low high = go (eqb first 16) refl
  where
    go : (t : Bool) → eqb first 16 ≡ t → P first
    go true e = subst P (sym (eqb-true first 16 e)) a
    go false e = let last : 17 ≡ first = omega (arith, eqb-false first 16 e) in subst P last b

-- the fill before the digits
pub head-is : (n first : ℕ) → 16 ≤ first → first ≤ 17 → n / 2 ^ 48 % 2 * (first - 16) ≡ n / 2 ^ (65 - first) % 2 ^ (first - 16)
head-is n = by_first (λ (first : ℕ). n / 2 ^ 48 % 2 * (first - 16) ≡ n / 2 ^ (65 - first) % 2 ^ (first - 16)) (omega (arith, mod-one (n / 2 ^ 49))) (omega arith)

none_above : (h low unit : ℕ) → h ≡ 0 → h * unit + low ≡ low
none_above h low unit e = rw (e, zero-mul unit) (zero-add low)

-- where it is 0, the digits are all that stands between bit 15 and the fill after them
pub cut-is : (n first after : ℕ) → 16 ≤ first → first ≤ 17 → after ≤ 6 → n / 2 ^ (65 - first) % 2 ^ (first - 16) ≡ 0
    → n % 2 ^ 49 / 2 ^ (27 + after) ≡ n / 2 ^ (27 + after) % 2 ^ digit_bits first after
cut-is n first after low high few clear =
    let whole : 49 ≡ first - 16 + (65 - first) = omega arith in
    let cut : 65 - first ≡ digit_bits first after + (27 + after) = omega arith in
    let same : n % 2 ^ 49 ≡ n % 2 ^ (65 - first)
    = ap (λ (k : ℕ). n % 2 ^ k) whole ∙ mod-pow-add n (first - 16) (65 - first) ∙ none_above _ (n % 2 ^ (65 - first)) (2 ^ (65 - first)) clear in
    ap (λ (m : ℕ). m / 2 ^ (27 + after)) (same ∙ ap (λ (k : ℕ). n % 2 ^ k) cut) ∙ field n (digit_bits first after) (27 + after)

-- so in a line whose fill is clear
pub clear-cut : (n : ℕ) (k : Constants) → fill_at n k.first k.after ≡ true
    → n % 2 ^ 49 / 2 ^ (27 + k.after) ≡ n / 2 ^ (27 + k.after) % 2 ^ digit_bits k.first k.after
clear-cut n k clear =
    cut-is n k.first k.after k.from_16 k.by_17 k.few_after (eqb-true (n / 2 ^ (65 - k.first) % 2 ^ (k.first - 16)) 0 (both_left _ (eqb (n / 2 ^ 27 % 2 ^ k.after) 0) clear))
