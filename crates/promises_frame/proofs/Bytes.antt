-- The bytes of a line and its number: each byte is a field of eight bits, so that each bit of the number is the document's bit of its byte.
use mathlib.Core.Path.{◌≡◌, refl, sym, ap, ap₂, ◌∙◌}
use mathlib.Core.List.{List, [], ◌∷◌}
use Prim.Native.Nat.{ℕ, zero, suc, ◌+◌, ◌-◌, ◌*◌, ◌/◌, ◌%◌, ◌^◌, ◌<◌, ◌≤◌}
use native.Mathlib.Omega.{arith}
use native.Mathlib.Nat.{add-zero, zero-add}
use lib.ListN.{get_or}
use lib.Seq.{get_or-take}
use Rattle.frame.specs.Line.{line, field, bit, first_bytes}
use Rattle.promises_frame.specs.Bits.{AreBytes, bit_at, number_at}
use Rattle.promises_frame.proofs.Fields.{within, join}

-- What is said of the numbers below 8, one by one.
pub below-8 : (P : ℕ → Type 0) → P 0 → P 1 → P 2 → P 3 → P 4 → P 5 → P 6 → P 7 → (q : ℕ) → q < 8 → P q
below-8 P a b c d e f g h zero k = a
below-8 P a b c d e f g h (suc zero) k = b
below-8 P a b c d e f g h (suc (suc zero)) k = c
below-8 P a b c d e f g h (suc (suc (suc zero))) k = d
below-8 P a b c d e f g h (suc (suc (suc (suc zero)))) k = e
below-8 P a b c d e f g h (suc (suc (suc (suc (suc zero))))) k = f
below-8 P a b c d e f g h (suc (suc (suc (suc (suc (suc zero)))))) k = g
below-8 P a b c d e f g h (suc (suc (suc (suc (suc (suc (suc zero))))))) k = h
below-8 P a b c d e f g h (suc (suc (suc (suc (suc (suc (suc (suc q)))))))) k = absurd (omega arith)

-- Eight bytes as one number, and each of them as the field of its eight bits.
module _ (a b c d e f g h : ℕ) (pa : a < 256) (pb : b < 256) (pc : c < 256) (pd : d < 256) (pe : e < 256) (pf : f < 256) (pg : g < 256) (ph : h < 256) where
  abbrev eight : ℕ
  eight = a * 2 ^ 56 + b * 2 ^ 48 + c * 2 ^ 40 + d * 2 ^ 32 + e * 2 ^ 24 + f * 2 ^ 16 + g * 2 ^ 8 + h

  eight-lt : eight < 2 ^ 64
  eight-lt = omega arith

  eight-bytes : (q : ℕ) → q < 8 → field eight (8 * q + 1) (8 * q + 8) ≡ get_or (a ∷ b ∷ c ∷ d ∷ e ∷ f ∷ g ∷ h ∷ []) q 0
  eight-bytes =
      below-8 (λ (q : ℕ). field eight (8 * q + 1) (8 * q + 8) ≡ get_or (a ∷ b ∷ c ∷ d ∷ e ∷ f ∷ g ∷ h ∷ []) q 0) (omega arith)
      (omega arith) (omega arith) (omega arith) (omega arith) (omega arith) (omega arith) (omega arith)

pub line-lt : (s : List ℕ) → AreBytes s → line s < 2 ^ 64
unfolding line
line-lt s ok = eight-lt (get_or s 0 0) (get_or s 1 0) (get_or s 2 0) (get_or s 3 0) (get_or s 4 0) (get_or s 5 0) (get_or s 6 0) (get_or s 7 0) (ok 0) (ok 1) (ok 2) (ok 3) (ok 4) (ok 5) (ok 6) (ok 7)

-- A byte of a line.
pub line-byte : (s : List ℕ) → AreBytes s → (q : ℕ) → q < 8 → field (line s) (8 * q + 1) (8 * q + 8) ≡ get_or s q 0
unfolding line
line-byte s ok q k =
    eight-bytes (get_or s 0 0) (get_or s 1 0) (get_or s 2 0) (get_or s 3 0) (get_or s 4 0) (get_or s 5 0) (get_or s 6 0) (get_or s 7 0) (ok 0) (ok 1) (ok 2) (ok 3) (ok 4) (ok 5) (ok 6) (ok 7) q k
    ∙ below-8 (λ (q : ℕ). get_or (get_or s 0 0 ∷ get_or s 1 0 ∷ get_or s 2 0 ∷ get_or s 3 0 ∷ get_or s 4 0 ∷ get_or s 5 0 ∷ get_or s 6 0 ∷ get_or s 7 0 ∷ []) q 0 ≡ get_or s q 0)
    refl refl refl refl refl refl refl refl q k

pub byte-written : (size n q : ℕ) → size ≤ 8 → q < size → get_or (first_bytes size n) q 0 ≡ field n (8 * q + 1) (8 * q + 8)
unfolding first_bytes
byte-written size n q h k =
    get_or-take size (field n 1 8 ∷ field n 9 16 ∷ field n 17 24 ∷ field n 25 32 ∷ field n 33 40 ∷ field n 41 48 ∷ field n 49 56 ∷ field n 57 64 ∷ []) q 0 k
    ∙ below-8 (λ (q : ℕ). get_or (field n 1 8 ∷ field n 9 16 ∷ field n 17 24 ∷ field n 25 32 ∷ field n 33 40 ∷ field n 41 48 ∷ field n 49 56 ∷ field n 57 64 ∷ []) q 0 ≡ field n (8 * q + 1) (8 * q + 8))
    refl refl refl refl refl refl refl refl q (omega arith)

-- A bit of a line, within its byte.
bit-in-byte : (n i : ℕ) → 1 ≤ i → i ≤ 64 → bit n i ≡ field n (8 * ((i - 1) / 8) + 1) (8 * ((i - 1) / 8) + 8) / 2 ^ (7 - (i - 1) % 8) % 2
bit-in-byte n i p q =
    let a : ℕ = 8 * ((i - 1) / 8) in
    let back : a + 8 - i ≡ 7 - (i - 1) % 8 = omega arith in
    let one : i + 1 - i ≡ 1 = omega arith in
    within n (a + 1) (a + 8) i i (omega arith) (omega arith) (omega arith) (omega arith)
    ∙ ap₂ (λ (x y : ℕ). field n (a + 1) (a + 8) / 2 ^ x % 2 ^ y) back one

pub bit-line : (s : List ℕ) → AreBytes s → (i : ℕ) → 1 ≤ i → i ≤ 64 → bit (line s) i ≡ bit_at s i
bit-line s ok i p q = bit-in-byte (line s) i p q ∙ ap (λ (x : ℕ). x / 2 ^ (7 - (i - 1) % 8) % 2) (line-byte s ok ((i - 1) / 8) (omega arith))

bits-read : (s : List ℕ) → AreBytes s → (a size : ℕ) → 1 ≤ a → a + size ≤ 64 → field (line s) a (a + size) ≡ number_at s a (suc size)
unfolding number_at
bits-read s ok a zero p q =
    rw (add-zero a) (bit-line s ok a p (omega arith) ∙ sym (zero-add (bit_at s a)))
bits-read s ok a (suc size) p q =
    let next : a + size + 1 ≡ a + suc size = omega arith in
    let one : a + suc size - (a + size) ≡ 1 = omega arith in
    join (line s) a (a + size) (a + suc size) (omega arith) (omega arith) q
    ∙ ap₂ (λ (x y : ℕ). x + y) (ap₂ (λ (x y : ℕ). x * 2 ^ y) (bits-read s ok a size p (omega arith)) one)
    (ap (λ (x : ℕ). field (line s) x (a + suc size)) next ∙ bit-line s ok (a + suc size) (omega arith) q)

pub bits-written : (size n i : ℕ) → size ≤ 8 → 1 ≤ i → i ≤ 8 * size → bit_at (first_bytes size n) i ≡ bit n i
bits-written size n i h p q =
    ap (λ (x : ℕ). x / 2 ^ (7 - (i - 1) % 8) % 2) (byte-written size n ((i - 1) / 8) h (omega arith)) ∙ sym (bit-in-byte n i p (omega arith))

pub field-read : (s : List ℕ) → AreBytes s → (a b : ℕ) → 1 ≤ a → a ≤ b → b ≤ 64 → field (line s) a b ≡ number_at s a (b + 1 - a)
field-read s ok a b p q r =
    let end : a + (b - a) ≡ b = omega arith in
    let size : suc (b - a) ≡ b + 1 - a = omega arith in
    ap (λ (x : ℕ). field (line s) a x) (sym end) ∙ bits-read s ok a (b - a) p (omega arith) ∙ ap (number_at s a) size
