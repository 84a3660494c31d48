-- Bytes in one word, and words that differ: where two words agree above a bit, so do the bytes that stand there. Assumes nothing.
use mathlib.Core.Path.{◌≡◌, refl, sym, ap, ◌∙◌}
use mathlib.Core.Bool.{Bool, true, false}
use mathlib.Core.List.{List}
use Prim.Native.Nat.{ℕ, zero, suc, ◌+◌, ◌-◌, ◌*◌, ◌/◌, ◌%◌, ◌^◌, ◌<◌, ◌≤◌}
use native.Mathlib.Nat.{pow-suc, pow-succ', div-div-eq-div-mul}
use native.Mathlib.Numerals.{add-one}
use native.Mathlib.Omega.{arith}
use borrow.Author.Tests.{eqb-true, eqb-false}
use lib.Arith.{digits_div, digits_mod}
use lib.Bits.{bit_or, bit_xor, or_add_and, xor_add_and, xor_step, and_le_l, and_le_r}
use lib.Dec.{eqb}
use lib.ListN.{get_or}
use lib.Pow.{pow_mono}
use Rattle.lines.specs.Inside.Runs.{Digits}

pub or-none : (a b : ℕ) → bit_or a b ≡ 0 → (a ≡ 0) × (b ≡ 0)
or-none a b e =
    (omega (arith, or_add_and a b, and_le_r a b, and_le_l a b), omega (arith, or_add_and a b, and_le_r a b, and_le_l a b))

pub xor-none : (a b : ℕ) → bit_xor a b ≡ 0 → a ≡ b
xor-none a b e = omega (arith, xor_add_and a b, and_le_r a b, and_le_l a b)

-- Two words whose difference is below a bit are the same from that bit on.
pub xor-high : (k a b : ℕ) → bit_xor a b < 2 ^ k → a / 2 ^ k ≡ b / 2 ^ k
xor-high zero a b h = ap (λ (n : ℕ). n / 2 ^ 0) (xor-none a b (omega arith))
xor-high (suc k) a b h =
    let p = 2 ^ k in
    let top : bit_xor a b < p * 2 = rw (pow-suc 2 k) at h in
    let half : bit_xor (a / 2) (b / 2) < p = omega (arith, top, xor_step a b) in
    let same : a / 2 / p ≡ b / 2 / p = xor-high k (a / 2) (b / 2) half in
    rw (pow-succ' 2 k) (sym (div-div-eq-div-mul a 2 p) ∙ same ∙ div-div-eq-div-mul b 2 p)

-- One byte more.
pub digits_more : (row : List ℕ) (i n b : ℕ) → Digits row i n → b ≡ get_or row i 0 → b < 256 → Digits row (i + 1) (n * 256 + b)
digits_more row i n b d own byte =
    let p = 256 ^ i in
    let low : n < p = d.below in
    record { below = rw (add-one i, pow-suc 256 i) (omega arith); digit = λ k h. go k h (eqb k i) refl }
  where
    go : (k : ℕ) → k < i + 1 → (t : Bool) → eqb k i ≡ t → (n * 256 + b) / 256 ^ (i + 1 - (k + 1)) % 256 ≡ get_or row k 0
    go k h true e =
        let here : k ≡ i = eqb-true k i e in
        let last : i + 1 - (k + 1) ≡ 0 = omega arith in
        let byte : (n * 256 + b) / 1 % 256 ≡ b = omega arith in
        ap (λ (m : ℕ). (n * 256 + b) / 256 ^ m % 256) last ∙ byte ∙ own ∙ ap (λ (m : ℕ). get_or row m 0) (sym here)
    go k h false e =
        let other : k ≡ i → ⊥ = eqb-false k i e in
        let q = 256 ^ (i - (k + 1)) in
        let further : i + 1 - (k + 1) ≡ suc (i - (k + 1)) = omega arith in
        let above : (n * 256 + b) / 256 ≡ n = omega arith in
        ap (λ (m : ℕ). (n * 256 + b) / 256 ^ m % 256) further ∙ ap (λ (m : ℕ). (n * 256 + b) / m % 256) (pow-succ' 256 (i - (k + 1)))
        ∙ ap (λ (m : ℕ). m % 256) (sym (div-div-eq-div-mul (n * 256 + b) 256 q) ∙ ap (λ (m : ℕ). m / q) above) ∙ d.digit k (omega arith)

-- a byte that is written eight times, at one of its places
at_place : (x c₁ c₂ p : ℕ) → x < 256 → x * c₂ < p → x * 0x0101010101010101 ≡ (x * c₁ * 256 + x) * p + x * c₂ → x * 0x0101010101010101 / p % 256 ≡ x
at_place x c₁ c₂ p byte low e =
    ap (λ (n : ℕ). n / p % 256) e ∙ ap (λ (n : ℕ). n % 256) (digits_div (x * c₁ * 256 + x) low) ∙ digits_mod (x * c₁) byte

-- Eight bytes against eight times one byte: alike as far as the two words agree.
module _ (row : List ℕ) (a x z : ℕ) (d : Digits row 8 a) (byte : x < 256) (agree : bit_xor a (x * 0x0101010101010101) < 2 ^ (64 - z)) where
  one : (k m : ℕ) → k < 8 → 256 ^ (8 - (k + 1)) ≡ 2 ^ m → 64 - z ≤ m → x * 0x0101010101010101 / 2 ^ m % 256 ≡ x → get_or row k 0 ≡ x
  one k m h e l own =
      let below : bit_xor a (x * 0x0101010101010101) < 2 ^ m = omega (arith, agree, pow_mono l) in
      sym (d.digit k h) ∙ ap (λ (p : ℕ). a / p % 256) e ∙ ap (λ (n : ℕ). n % 256) (xor-high m a (x * 0x0101010101010101) below) ∙ own

  pub agree-front : (k : ℕ) → 8 * (k + 1) ≤ z → z ≤ 64 → get_or row k 0 ≡ x
  agree-front zero h l = one 0 56 (omega arith) refl (omega arith) (at_place x 0 0x1010101010101 (2 ^ 56) byte (omega arith) (omega arith))
  agree-front (suc zero) h l = one 1 48 (omega arith) refl (omega arith) (at_place x 0x1 0x10101010101 (2 ^ 48) byte (omega arith) (omega arith))
  agree-front (suc (suc zero)) h l = one 2 40 (omega arith) refl (omega arith) (at_place x 0x101 0x101010101 (2 ^ 40) byte (omega arith) (omega arith))
  agree-front (suc (suc (suc zero))) h l = one 3 32 (omega arith) refl (omega arith) (at_place x 0x10101 0x1010101 (2 ^ 32) byte (omega arith) (omega arith))
  agree-front (suc (suc (suc (suc zero)))) h l = one 4 24 (omega arith) refl (omega arith) (at_place x 0x1010101 0x10101 (2 ^ 24) byte (omega arith) (omega arith))
  agree-front (suc (suc (suc (suc (suc zero))))) h l = one 5 16 (omega arith) refl (omega arith) (at_place x 0x101010101 0x101 (2 ^ 16) byte (omega arith) (omega arith))
  agree-front (suc (suc (suc (suc (suc (suc zero)))))) h l = one 6 8 (omega arith) refl (omega arith) (at_place x 0x10101010101 0x1 (2 ^ 8) byte (omega arith) (omega arith))
  agree-front (suc (suc (suc (suc (suc (suc (suc zero))))))) h l = one 7 0 (omega arith) refl (omega arith) (at_place x 0x1010101010101 0 (2 ^ 0) byte (omega arith) (omega arith))
  agree-front (suc (suc (suc (suc (suc (suc (suc (suc k)))))))) h l = absurd (omega arith)
