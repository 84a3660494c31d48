-- What is left of a drawing from a sample on: whole bits are passed by their number, and the rest is the rest of one bit and the bits after it. Assumes
-- nothing.
use mathlib.Core.Path.{◌≡◌, refl, sym, ap, ap₂, ◌∙◌}
use mathlib.Core.List.{List, [], ◌∷◌, ◌++◌}
use Prim.Native.Nat.{ℕ, zero, suc, ◌+◌, ◌-◌, ◌*◌, ◌/◌, ◌%◌, ◌≤◌}
use native.Mathlib.Omega.{arith}
use native.Mathlib.Numerals.{unary_clauses}
use native.Mathlib.Nat.{div-add-mod', zero-add}
use lib.ListN.{length, drop, replicate, length-append, length-replicate}
use lib.Seq.{drop-nil, drop-append-le, drop-append-add}
use Rattle.std.proofs.lemmas.List.{drop-replicate}
use Rattle.drawing.specs.Pulses.{low_sample, bit_after, bits_after, drawn, drawing}

-- one bit drawn
abbrev pub one : (low still bit : ℕ) → List ℕ
one low still bit = replicate low (low_sample bit) ++ replicate still 0

pub one-long : (low still bit : ℕ) → length (one low still bit) ≡ low + still
one-long low still bit =
    length-append (replicate low (low_sample bit)) (replicate still 0)
    ∙ ap₂ (λ (a b : ℕ). a + b) (length-replicate low (low_sample bit)) (length-replicate still 0)

pub bit-first : (low still bit : ℕ) (bits : List ℕ) → drawn low still (bit ∷ bits) ≡ one low still bit ++ drawn low still bits
unfolding drawn
bit-first low still bit bits = refl

-- so many samples to a bit
pub bits-after-long : (before count : ℕ) (message : List ℕ) → length (bits_after before count message) ≡ count
unfolding bits_after
bits-after-long before zero message = refl
bits-after-long before (suc count) message = ap suc (bits-after-long (suc before) count message)

drawn-long : (low still : ℕ) (bits : List ℕ) → length (drawn low still bits) ≡ length bits * (low + still)
unfolding drawn
drawn-long low still [] = omega arith
drawn-long low still (b ∷ bits) =
    ap length (bit-first low still b bits) ∙ length-append (one low still b) (drawn low still bits)
    ∙ omega (arith, one-long low still b, drawn-long low still bits)

pub drawing-long : (low still count : ℕ) (message : List ℕ) → length (drawing low still count message) ≡ count * (low + still)
drawing-long low still count message =
    drawn-long low still (bits_after 0 count message) ∙ ap (λ (n : ℕ). n * (low + still)) (bits-after-long 0 count message)

-- a run passed in part
pub drop-run : (p n x : ℕ) → ◌≡◌ {A = List ℕ} (drop p (replicate n x)) (replicate (n - p) x)
drop-run p n x = drop-replicate p n x

pub drop-both : (p : ℕ) (xs ys : List ℕ) → drop p (xs ++ ys) ≡ drop p xs ++ drop (p - length xs) ys
drop-both zero [] ys = refl
drop-both zero (x ∷ xs) ys = let z : 0 - suc (length xs) ≡ 0 = omega arith in rw z
drop-both (suc p) [] ys = simp unary_clauses refl
drop-both (suc p) (x ∷ xs) ys = simp unary_clauses (drop-both p xs ys)

pub two_runs : (p low still line : ℕ) → drop p (replicate low line ++ replicate still 0) ≡ replicate (low - p) line ++ replicate (still - (p - low)) 0
two_runs p low still line =
    drop-both p (replicate low line) (replicate still 0)
    ∙ ap₂ (λ (xs ys : List ℕ). xs ++ ys) (drop-run p low line)
    (ap (λ (n : ℕ). drop (p - n) (replicate still 0)) (length-replicate low line) ∙ drop-run (p - low) still 0)

module _ (low still : ℕ) (message : List ℕ) where
  -- what is left after some bits and some samples of the next
  abbrev pub rest_of : (before count passed : ℕ) → List ℕ
  rest_of before count passed = drop passed (drawn low still (bits_after before count message))

  pub passing : (bits before count passed : ℕ) → rest_of before count (bits * (low + still) + passed) ≡ rest_of (before + bits) (count - bits) passed
  unfolding drawn bits_after
  passing zero before count passed =
      let place : before ≡ before + 0 = omega arith in
      let all : count ≡ count - 0 = omega arith in
      let plain : 0 * (low + still) + passed ≡ passed = omega arith in
      λ i. rest_of (place i) (all i) (plain i)
  passing (suc bits) before zero passed =
      let z : 0 ≡ 0 - suc bits = omega arith in
      drop-nil (suc bits * (low + still) + passed) ∙ sym (drop-nil passed) ∙ ap (λ (n : ℕ). rest_of (before + suc bits) n passed) z
  passing (suc bits) before (suc count) passed =
      let b = bit_after message before in
      let sum : suc bits * (low + still) + passed ≡ length (one low still b) + (bits * (low + still) + passed) = omega (arith, one-long low still b) in
      let place : suc before + bits ≡ before + suc bits = omega arith in
      let left : count - bits ≡ suc count - suc bits = omega arith in
      ap₂ drop sum (bit-first low still b (bits_after (suc before) count message))
      ∙ drop-append-add (one low still b) (drawn low still (bits_after (suc before) count message)) (bits * (low + still) + passed)
      ∙ passing bits (suc before) count passed
      ∙ ap₂ (λ (k n : ℕ). rest_of k n passed) place left

  -- from a sample on
  pub from-sample : (count from : ℕ) → rest_of 0 count from ≡ rest_of (from / (low + still)) (count - from / (low + still)) (from % (low + still))
  from-sample count from =
      let b = from / (low + still) in
      ap (rest_of 0 count) (sym (div-add-mod' from (low + still))) ∙ passing b 0 count (from % (low + still))
      ∙ ap (λ (k : ℕ). rest_of k (count - b) (from % (low + still))) (zero-add b)

  -- the rest of one bit, and the bits after it
  pub next_bit : (before count passed : ℕ) → 1 ≤ count → passed ≤ low + still
      → rest_of before count passed ≡ drop passed (one low still (bit_after message before)) ++ rest_of (before + 1) (count - 1) 0
  unfolding drawn bits_after
  next_bit before zero passed some h = absurd (omega arith)
  next_bit before (suc count) passed some h =
      let b = bit_after message before in
      let next : suc before ≡ before + 1 = omega arith in
      let left : count ≡ suc count - 1 = omega arith in
      ap (drop passed) (bit-first low still b (bits_after (suc before) count message))
      ∙ drop-append-le passed (one low still b) (drawn low still (bits_after (suc before) count message)) (omega (arith, one-long low still b))
      ∙ ap₂ (λ (k n : ℕ). drop passed (one low still b) ++ drawn low still (bits_after k n message)) next left

  pub no_bits : (before count passed : ℕ) → count ≡ 0 → rest_of before count passed ≡ []
  unfolding drawn bits_after
  no_bits before count passed e = ap (λ (n : ℕ). rest_of before n passed) e ∙ drop-nil passed
