-- A word whose bits after the count are 0, and one bit more: the bits before it stay, it is the next, and after it the bits are 0 again. The word is a
-- multiple of the power of the places left, so all follows by dividing it.
use mathlib.Core.Path.{◌≡◌, refl, sym, ap, ap₂, ◌∙◌}
use mathlib.Core.List.{List, [], ◌∷◌, ◌++◌}
use Prim.Native.Nat.{ℕ, zero, suc, ◌+◌, ◌-◌, ◌*◌, ◌/◌, ◌%◌, ◌^◌, ◌<◌, ◌≤◌}
use native.Mathlib.Omega.{arith}
use native.Mathlib.Numerals.{add-one}
use native.Mathlib.Nat.{div-add-mod', div-div-eq-div-mul, mul_assoc, add-mul, mul-mod_left, mul-div_cancel, zero-mul, add-zero}
use lib.Arith.{digits_div, digits_mod}
use lib.Pow.{pow_pos, pow-add}
use Rattle.frame.specs.Line.{bit, put, first_bytes}
use Rattle.lines.proofs.Places.{pads-more}
use Rattle.promises_frame.specs.Bits.{bit_at}
use Rattle.promises_lines.specs.History.{bits_of}
use Rattle.promises_frame.proofs.Bytes.{bits-written}

-- At most 64 bits, and 0 after them.
pub record Clear (bits count : ℕ) : Type 0 where
  pub small : count ≤ 64
  pub pads : bits % 2 ^ (64 - count) ≡ 0

-- The word is twice a multiple of the next place's power.
module _ (bits count : ℕ) (more : count < 64) (clear : Clear bits count) where
  abbrev P : ℕ
  P = 2 ^ (64 - (count + 1))

  abbrev Q : ℕ
  Q = bits / 2 ^ (64 - count)

  twice : 2 ^ (64 - count) ≡ 2 * P
  twice = let one : 64 - count ≡ 1 + (64 - (count + 1)) = omega arith in ap (λ (x : ℕ). 2 ^ x) one ∙ pow-add 2 1 (64 - (count + 1))

  whole : Q * 2 * P ≡ bits
  whole =
      mul_assoc Q 2 P ∙ ap (λ (x : ℕ). Q * x) (sym twice)
      ∙ (let sum = div-add-mod' bits (2 ^ (64 - count)) in let none = clear.pads in omega arith)

  sum : (m : ℕ) → bits + put m (count + 1) ≡ (Q * 2 + m) * P
  sum m = ap (λ (x : ℕ). x + m * P) (sym whole) ∙ sym (add-mul (Q * 2) m P)

  pub clear-more : (m : ℕ) → Clear (bits + put m (count + 1)) (count + 1)
  clear-more m =
      record { small = omega arith; pads = pads-more bits m count more clear.pads }

  -- What stands above the next place.
  above : (m i : ℕ) → m < 2 → 1 ≤ i → i ≤ count → (bits + put m (count + 1)) / 2 ^ (64 - i) ≡ Q / 2 ^ (count - i)
  above m i less p q =
      let places : 64 - i ≡ 64 - (count + 1) + (1 + (count - i)) = omega arith in
      let power : 2 ^ (64 - i) ≡ P * (2 * 2 ^ (count - i))
      = ap (λ (x : ℕ). 2 ^ x) places ∙ pow-add 2 (64 - (count + 1)) (1 + (count - i)) ∙ ap (λ (x : ℕ). P * x) (pow-add 2 1 (count - i)) in
      ap₂ (λ (x y : ℕ). x / y) (sum m) power ∙ sym (div-div-eq-div-mul ((Q * 2 + m) * P) P (2 * 2 ^ (count - i)))
      ∙ ap (λ (x : ℕ). x / (2 * 2 ^ (count - i))) (mul-div_cancel (Q * 2 + m) (pow_pos (64 - (count + 1))))
      ∙ sym (div-div-eq-div-mul (Q * 2 + m) 2 (2 ^ (count - i))) ∙ ap (λ (x : ℕ). x / 2 ^ (count - i)) (digits_div Q less)

  bit-old : (m i : ℕ) → m < 2 → 1 ≤ i → i ≤ count → bit (bits + put m (count + 1)) i ≡ bit bits i
  bit-old m i less p q =
      let none : bits + put 0 (count + 1) ≡ bits = ap (λ (x : ℕ). bits + x) (zero-mul P) ∙ add-zero bits in
      ap (λ (x : ℕ). x % 2 ^ (i + 1 - i))
      (above m i less p q ∙ sym (above 0 i (omega arith) p q) ∙ ap (λ (x : ℕ). x / 2 ^ (64 - i)) none)

  bit-new : (m : ℕ) → m < 2 → bit (bits + put m (count + 1)) (count + 1) ≡ m
  bit-new m less =
      let one : count + 1 + 1 - (count + 1) ≡ 1 = omega arith in
      ap₂ (λ (x y : ℕ). x % 2 ^ y) (ap (λ (x : ℕ). x / P) (sum m) ∙ mul-div_cancel (Q * 2 + m) (pow_pos (64 - (count + 1)))) one
      ∙ digits_mod Q less

  bits-old : (m : ℕ) → m < 2 → (k : ℕ) → k ≤ count → bits_of k (first_bytes 8 (bits + put m (count + 1))) ≡ bits_of k (first_bytes 8 bits)
  unfolding bits_of
  bits-old m less zero h = refl
  bits-old m less (suc k) h =
      ap₂ (λ (xs : List ℕ) (b : ℕ). xs ++ b ∷ []) (bits-old m less k (omega arith))
      (bits-written 8 (bits + put m (count + 1)) (suc k) (omega arith) (omega arith) (omega arith)
      ∙ bit-old m (suc k) less (omega arith) h
      ∙ sym (bits-written 8 bits (suc k) (omega arith) (omega arith) (omega arith)))

  pub bits-more : (m : ℕ) → m < 2 → bits_of (count + 1) (first_bytes 8 (bits + put m (count + 1))) ≡ bits_of count (first_bytes 8 bits) ++ m ∷ []
  unfolding bits_of
  bits-more m less =
      let w : ℕ = bits + put m (count + 1) in
      ap (λ (k : ℕ). bits_of k (first_bytes 8 w)) (add-one count)
      ∙ ap₂ (λ (xs : List ℕ) (b : ℕ). xs ++ b ∷ []) (bits-old m less count (omega arith))
      (ap (bit_at (first_bytes 8 w)) (sym (add-one count)) ∙ bits-written 8 w (count + 1) (omega arith) (omega arith) (omega arith) ∙ bit-new m less)

-- The bits after the count are 0.
pub pad-bit : (bits count i : ℕ) → Clear bits count → count < i → i ≤ 64 → bit bits i ≡ 0
pad-bit bits count i clear p q =
    let one : i + 1 - i ≡ 1 = omega arith in
    let power : 2 ^ (64 - count) ≡ 2 ^ (i - count - 1) * 2 * 2 ^ (64 - i)
    = (let places : 64 - count ≡ i - count - 1 + 1 + (64 - i) = omega arith in
    ap (λ (x : ℕ). 2 ^ x) places ∙ pow-add 2 (i - count - 1 + 1) (64 - i) ∙ ap (λ (x : ℕ). x * 2 ^ (64 - i)) (pow-add 2 (i - count - 1) 1)) in
    let r : ℕ = bits / 2 ^ (64 - count) in
    let all : bits ≡ r * (2 ^ (i - count - 1) * 2) * 2 ^ (64 - i)
    = (let sum = div-add-mod' bits (2 ^ (64 - count)) in let none = clear.pads in
    let same : bits ≡ r * 2 ^ (64 - count) = omega arith in
    same ∙ ap (λ (x : ℕ). r * x) power ∙ sym (mul_assoc r (2 ^ (i - count - 1) * 2) (2 ^ (64 - i)))) in
    ap₂ (λ (x y : ℕ). x % 2 ^ y) (ap (λ (x : ℕ). x / 2 ^ (64 - i)) all ∙ mul-div_cancel (r * (2 ^ (i - count - 1) * 2)) (pow_pos (64 - i))) one
    ∙ ap (λ (x : ℕ). x % 2) (sym (mul_assoc r (2 ^ (i - count - 1)) 2)) ∙ mul-mod_left (r * 2 ^ (i - count - 1)) 2
