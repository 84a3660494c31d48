-- The marks counted over bytes are the marks counted over bits: a run of bits has as many marks as the number that it writes has ones.
use mathlib.Core.Path.{◌≡◌, refl, sym, ap, ap₂, ◌∙◌}
use mathlib.Core.List.{List, [], ◌∷◌}
use Prim.Native.Nat.{ℕ, zero, suc, ◌+◌, ◌-◌, ◌*◌, ◌^◌, ◌≤◌}
use native.Mathlib.Omega.{arith}
use native.Mathlib.Nat.{add-zero, add_assoc, add-suc}
use native.Mathlib.Numerals.{add-one}
use lib.Count.{ones, ones_cat}
use lib.ListN.{length}
use Rattle.frame.specs.Line.{line, field, bit, first_bytes, marks}
use Rattle.promises_frame.specs.Bits.{AreBytes, bit_at}
use Rattle.promises_frame.specs.Parity.{marks_among}
use Rattle.frame.proofs.Marks.{marks-append}
use Rattle.promises_frame.proofs.Cases.{by_le}
use Rattle.promises_frame.proofs.Fields.{join}
use Rattle.promises_frame.proofs.Digits.{bit-lt}
use Rattle.promises_frame.proofs.Bytes.{bit-line}
use Rattle.promises_frame.proofs.Lines.{first_bytes-line}
use Rattle.promises_frame.proofs.LastBit.{one_more, ones_bit}

-- The marks among the first bits of a line.
among : ℕ → ℕ → ℕ
among n zero = 0
among n (suc k) = among n k + bit n (suc k)

-- A run of j + 1 bits after bit a.
run : (n a j : ℕ) → a + suc j ≤ 64 → among n (a + suc j) ≡ among n a + ones (field n (a + 1) (a + suc j))
unfolding among
run n a zero h =
    ap (among n) (add-one a)
    ∙ ap (λ (x : ℕ). among n a + x) (sym (ones_bit (bit n (suc a)) (bit-lt n (suc a))) ∙ ap (λ (x : ℕ). ones (bit n x)) (sym (add-one a)))
run n a (suc j) h =
    let next : a + suc (suc j) ≡ suc (a + suc j) = add-suc a (suc j) in
    let one : a + suc (suc j) - (a + suc j) ≡ 1 = omega arith in
    let step : a + suc j + 1 ≡ a + suc (suc j) = omega arith in
    let front : ℕ = field n (a + 1) (a + suc j) in
    let last : ℕ = bit n (a + suc (suc j)) in
    let split : field n (a + 1) (a + suc (suc j)) ≡ front * 2 ^ 1 + last
    = join n (a + 1) (a + suc j) (a + suc (suc j)) (omega arith) (omega arith) h ∙ ap₂ (λ (x y : ℕ). front * 2 ^ x + field n y (a + suc (suc j))) one step in
    ap (among n) next
    ∙ ap₂ (λ (x y : ℕ). x + bit n y) (run n a j (omega arith)) (sym next)
    ∙ add_assoc (among n a) (ones front) last
    ∙ ap (λ (x : ℕ). among n a + x)
    (ap (λ (x : ℕ). ones front + x) (sym (ones_bit last (bit-lt n (a + suc (suc j)))))
    ∙ sym (ones_cat 1 front last (bit-lt n (a + suc (suc j)))) ∙ ap ones (sym split))

marks-among : (n k : ℕ) → k ≤ 8 → marks (first_bytes k n) ≡ among n (8 * k)
unfolding among marks first_bytes
marks-among n zero h = refl
marks-among n (suc k) h =
    let next : 8 * suc k ≡ 8 * k + 8 = omega arith in
    ap marks (one_more n k (omega arith)) ∙ marks-append (first_bytes k n) (field n (8 * k + 1) (8 * k + 8) ∷ [])
    ∙ ap₂ (λ (x y : ℕ). x + y) (marks-among n k (omega arith)) (add-zero (ones (field n (8 * k + 1) (8 * k + 8))))
    ∙ sym (run n (8 * k) 7 (omega arith)) ∙ ap (among n) (sym next)

among-bits : (s : List ℕ) → AreBytes s → (k : ℕ) → k ≤ 64 → among (line s) k ≡ marks_among s k
unfolding among marks_among
among-bits s ok zero h = refl
among-bits s ok (suc k) h = ap₂ (λ (x y : ℕ). x + y) (among-bits s ok k (omega arith)) (bit-line s ok (suc k) (omega arith) h)

pub counted : (s : List ℕ) → AreBytes s → length s ≤ 8 → marks s ≡ marks_among s (8 * length s)
counted s ok h = ap marks (sym (first_bytes-line s ok h)) ∙ marks-among (line s) (length s) h ∙ among-bits s ok (8 * length s) (omega arith)

-- The marks of two lines with the same bits, and of two that differ in one.
same-marks : (s t : List ℕ) (k : ℕ) → ((i : ℕ) → 1 ≤ i → i ≤ k → bit_at t i ≡ bit_at s i) → marks_among t k ≡ marks_among s k
unfolding marks_among
same-marks s t zero h = refl
same-marks s t (suc k) h = ap₂ (λ (x y : ℕ). x + y) (same-marks s t k (λ i p q. h i p (omega arith))) (h (suc k) (omega arith) (omega arith))

pub wrong-marks : (s t : List ℕ) (k j : ℕ) → 1 ≤ j → j ≤ k → ((i : ℕ) → 1 ≤ i → i ≤ k → ¬ (i ≡ j) → bit_at t i ≡ bit_at s i)
    → marks_among t k + bit_at s j ≡ marks_among s k + bit_at t j
unfolding marks_among
wrong-marks s t zero j p q h = absurd (omega arith)
wrong-marks s t (suc k) j p q h =
    by_le j k
    (λ r. swap (marks_among t k) (marks_among s k) (bit_at t j) (bit_at s j) (bit_at t (suc k)) (bit_at s (suc k))
    (wrong-marks s t k j p r (λ i a b c. h i a (omega arith) c)) (h (suc k) (omega arith) (omega arith) (λ e. omega arith)))
    (λ r. let e : suc k ≡ j = omega arith in
    let same = same-marks s t k (λ i a b. h i a (omega arith) (λ f. omega arith)) in
    rw (← e) (cross (marks_among t k) (marks_among s k) (bit_at t (suc k)) (bit_at s (suc k)) same))
  where
    swap : (a b x y p q : ℕ) → a + y ≡ b + x → p ≡ q → a + p + y ≡ b + q + x
    swap a b x y p q e f = omega arith

    cross : (a b x y : ℕ) → a ≡ b → a + x + y ≡ b + y + x
    cross a b x y e = omega arith
