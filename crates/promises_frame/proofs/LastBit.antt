-- Parity. The marks of a line's first bytes are the marks before its last bit, and that bit.
use mathlib.Core.Path.{◌≡◌, refl, sym, ap, ap₂, ◌∙◌}
use mathlib.Core.List.{[], ◌∷◌, ◌++◌}
use Prim.Native.Nat.{ℕ, zero, suc, ◌+◌, ◌-◌, ◌*◌, ◌%◌, ◌^◌, ◌<◌}
use native.Mathlib.Omega.{arith}
use native.Mathlib.Nat.{add-zero, add_assoc}
use lib.Count.{ones, ones_cat}
use Rattle.frame.specs.Line.{field, bit, first_bytes, marks}
use Rattle.frame.proofs.Marks.{marks-append}
use Rattle.promises_frame.proofs.Fields.{join, same-within}
use Rattle.promises_frame.proofs.Bytes.{below-8}
use Rattle.promises_frame.proofs.Lines.{same_first}
use Rattle.promises_frame.proofs.Digits.{bit-lt}

pub one_more : (n k : ℕ) → k < 8 → first_bytes (suc k) n ≡ first_bytes k n ++ (field n (8 * k + 1) (8 * k + 8) ∷ [])
unfolding first_bytes
one_more n =
    below-8 (λ (k : ℕ). first_bytes (suc k) n ≡ first_bytes k n ++ (field n (8 * k + 1) (8 * k + 8) ∷ [])) refl refl refl refl refl refl refl
    refl

-- The marks of a byte are those of its first seven bits, and its last bit.
pub ones_bit : (b : ℕ) → b < 2 → ones b ≡ b
unfolding ones
ones_bit zero h = refl
ones_bit (suc zero) h = refl
ones_bit (suc (suc b)) h = absurd (omega arith)

ones-byte : (n k : ℕ) → k < 8 → ones (field n (8 * k + 1) (8 * k + 8)) ≡ ones (field n (8 * k + 1) (8 * k + 7)) + bit n (8 * k + 8)
ones-byte n k h =
    ap ones (join n (8 * k + 1) (8 * k + 7) (8 * k + 8) (omega arith) (omega arith) (omega arith)
    ∙ ap₂ (λ (x y : ℕ). field n (8 * k + 1) (8 * k + 7) * 2 ^ x + field n y (8 * k + 8)) (one (8 * k)) (next (8 * k)))
    ∙ ones_cat 1 (field n (8 * k + 1) (8 * k + 7)) (bit n (8 * k + 8)) (bit-lt n (8 * k + 8))
    ∙ ap (λ (x : ℕ). ones (field n (8 * k + 1) (8 * k + 7)) + x) (ones_bit (bit n (8 * k + 8)) (bit-lt n (8 * k + 8)))
  where
    one : (a : ℕ) → a + 8 - (a + 7) ≡ 1
    one a = omega arith

    next : (a : ℕ) → a + 7 + 1 ≡ a + 8
    next a = omega arith

-- The marks before the last bit of the first k + 1 bytes.
before : ℕ → ℕ → ℕ
before k n = marks (first_bytes k n) + ones (field n (8 * k + 1) (8 * k + 7))

marks-last : (n k : ℕ) → k < 8 → marks (first_bytes (suc k) n) ≡ before k n + bit n (8 * k + 8)
unfolding before marks
marks-last n k h =
    ap marks (one_more n k h) ∙ marks-append (first_bytes k n) (field n (8 * k + 1) (8 * k + 8) ∷ [])
    ∙ ap (λ (x : ℕ). marks (first_bytes k n) + x) (add-zero (ones (field n (8 * k + 1) (8 * k + 8))) ∙ ones-byte n k h)
    ∙ sym (add_assoc (marks (first_bytes k n)) (ones (field n (8 * k + 1) (8 * k + 7))) (bit n (8 * k + 8)))

before_same : (n w k : ℕ) → k < 8 → field w 1 (8 * k + 7) ≡ field n 1 (8 * k + 7) → before k w ≡ before k n
unfolding before
before_same n w k h e =
    ap₂ (λ (x y : ℕ). x + y)
    (ap marks (same_first k n w (omega arith) (λ i lo hi. same-within w n 1 (8 * k + 7) i i lo (omega arith) (omega arith) (omega arith) e)))
    (ap ones (same-within w n 1 (8 * k + 7) (8 * k + 1) (8 * k + 7) (omega arith) (omega arith) (omega arith) (omega arith) e))

-- Lines that agree before their last bit: their marks differ by that bit.
pub parity-law : (n w k : ℕ) → k < 8 → field w 1 (8 * k + 7) ≡ field n 1 (8 * k + 7)
    → marks (first_bytes (suc k) w) + bit n (8 * k + 8) ≡ marks (first_bytes (suc k) n) + bit w (8 * k + 8)
parity-law n w k h e =
    swap (before k w) (before k n) (marks (first_bytes (suc k) w)) (marks (first_bytes (suc k) n)) (bit w (8 * k + 8)) (bit n (8 * k + 8))
    (marks-last w k h) (marks-last n k h) (before_same n w k h e)
  where
    swap : (a b m p x y : ℕ) → m ≡ a + x → p ≡ b + y → a ≡ b → m + y ≡ p + x
    swap a b m p x y e f g = omega arith

-- Where two counts of marks have the same parity, the bits by which they differ are equal.
pub last_bit : (m p a b odd : ℕ) → m + b ≡ p + a → m % 2 ≡ odd → p % 2 ≡ odd → a < 2 → b < 2 → a ≡ b
last_bit m p a b odd e f g ha hb = omega arith
