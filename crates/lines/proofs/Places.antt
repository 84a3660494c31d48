-- The place of a bit in a word whose bits after the count are 0: there is room for it, and after it the bits are 0 again. Assumes nothing.
use mathlib.Core.Path.{◌≡◌, sym, ap, ◌∙◌}
use Prim.Native.Nat.{ℕ, ◌+◌, ◌-◌, ◌*◌, ◌/◌, ◌%◌, ◌^◌, ◌<◌, ◌≤◌}
use native.Mathlib.Omega.{arith}
use native.Mathlib.Nat.{one-mul, mod-eq_of_lt, div-add-mod', div-lt_iff_lt-mul, mul_assoc, add-mul, mul-mod_left}
use lib.Arith.{digits_lt}
use lib.Pow.{pow-lt, pow_pos, pow-add}

-- A shift by the places left.
pub place : (count : ℕ) → count < 64 → 1 * 2 ^ (63 - count) % 2 ^ 64 ≡ 1 * 2 ^ (64 - (count + 1))
place count h =
    let same : 63 - count ≡ 64 - (count + 1) = omega arith in
    ap (λ (x : ℕ). x % 2 ^ 64) (one-mul (2 ^ (63 - count))) ∙ mod-eq_of_lt (pow-lt {i = 63 - count} {j = 64} (omega arith))
    ∙ ap (λ (x : ℕ). 2 ^ x) same ∙ sym (one-mul (2 ^ (64 - (count + 1))))

pub power : (count : ℕ) → 1 ≤ count → 1 * 2 ^ (64 - count) % 2 ^ 64 ≡ 2 ^ (64 - count)
power count h =
    ap (λ (x : ℕ). x % 2 ^ 64) (one-mul (2 ^ (64 - count))) ∙ mod-eq_of_lt (pow-lt {i = 64 - count} {j = 64} (omega arith))

-- A word whose bits after the count are 0 is a multiple of their power.
multiple : (bits p : ℕ) → bits % p ≡ 0 → bits / p * p ≡ bits
multiple bits p e = let whole = div-add-mod' bits p in omega arith

-- There is room for what takes fewer places.
pub room : (bits count more : ℕ) → bits < 2 ^ 64 → count ≤ 64 → bits % 2 ^ (64 - count) ≡ 0 → more < 2 ^ (64 - count) → bits + more < 2 ^ 64
room bits count more fits h e less =
    let p : ℕ = 2 ^ (64 - count) in
    let places : count + (64 - count) ≡ 64 = omega arith in
    let whole : 2 ^ count * p ≡ 2 ^ 64 = sym (pow-add 2 count (64 - count)) ∙ ap (λ (x : ℕ). 2 ^ x) places in
    let q : bits / p < 2 ^ count = (div-lt_iff_lt-mul (pow_pos (64 - count))).1 (rw whole fits) in
    let sum : bits / p * p + more < 2 ^ count * p = digits_lt q less in
    rw (multiple bits p e, whole) at sum

-- A mark or a space at the next place takes fewer.
pub next-less : (bit count : ℕ) → bit ≤ 1 → count < 64 → bit * 2 ^ (64 - (count + 1)) < 2 ^ (64 - count)
next-less bit count b h =
    let one : 64 - count ≡ 1 + (64 - (count + 1)) = omega arith in
    let p : ℕ = 2 ^ (64 - (count + 1)) in
    let double : 2 ^ (64 - count) ≡ 2 * p = ap (λ (x : ℕ). 2 ^ x) one ∙ pow-add 2 1 (64 - (count + 1)) in
    let less : bit * p + 0 < 2 * p = digits_lt {q = bit} {m = 2} {r = 0} {c = p} (omega arith) (pow_pos (64 - (count + 1))) in
    omega arith

-- After it the bits are 0 again.
pub pads-more : (bits bit count : ℕ) → count < 64 → bits % 2 ^ (64 - count) ≡ 0 → (bits + bit * 2 ^ (64 - (count + 1))) % 2 ^ (64 - (count + 1)) ≡ 0
pads-more bits bit count h e =
    let one : 64 - count ≡ 1 + (64 - (count + 1)) = omega arith in
    let p : ℕ = 2 ^ (64 - (count + 1)) in
    let double : 2 ^ (64 - count) ≡ 2 * p = ap (λ (x : ℕ). 2 ^ x) one ∙ pow-add 2 1 (64 - (count + 1)) in
    let q : ℕ = bits / 2 ^ (64 - count) in
    let whole : q * 2 * p ≡ bits = mul_assoc q 2 p ∙ ap (λ (x : ℕ). q * x) (sym double) ∙ multiple bits (2 ^ (64 - count)) e in
    ap (λ (x : ℕ). (x + bit * p) % p) (sym whole) ∙ ap (λ (x : ℕ). x % p) (sym (add-mul (q * 2) bit p)) ∙ mul-mod_left (q * 2 + bit) p
