-- The blank bytes of a slot by the words that its code reads: a part is blank exactly where it writes the largest number. Assumes nothing.
use mathlib.Core.Path.{◌≡◌, sym, ap, ◌∙◌}
use mathlib.Core.Bool.{Bool, ◌&&◌, and_assoc}
use mathlib.Core.List.{List}
use Prim.Native.Nat.{ℕ, ◌+◌, ◌-◌, ◌^◌, ◌≤◌}
use native.Mathlib.Omega.{arith}
use lib.Bits.{bit_and, and_le_l}
use lib.Dec.{eqb}
use lib.ListN.{length, get_or, take, drop, length-take, length-drop, take-append-drop}
use lib.Seq.{take_all, drop-cons, drop-drop, length-take-le}
use Rattle.sheet.specs.Bytes.{FF, number_in, all_blank}
use Rattle.sheet.proofs.Numbers.{AreBytes, bytes_take, bytes_drop, number_lt}
use Rattle.sheet.proofs.Blank.{blank-append, common-full}
use Rattle.sheet.proofs.Same.{blank-number}

module _ (x : List ℕ) (bytes : AreBytes x) (long : length x ≡ 32) where
  -- n bytes from the j-th on, and what follows them
  apart : (j n : ℕ) → all_blank (drop j x) ≡ (all_blank (take n (drop j x)) && all_blank (drop (j + n) x))
  apart j n =
      ap all_blank (sym (take-append-drop n (drop j x))) ∙ blank-append (take n (drop j x)) (drop n (drop j x))
      ∙ ap (λ (l : List ℕ). all_blank (take n (drop j x)) && all_blank l) (drop-drop n j x)

  by_word : (j n : ℕ) → j + n ≤ 32 → all_blank (take n (drop j x)) ≡ eqb (number_in (take n (drop j x))) (256 ^ n - 1)
  by_word j n within =
      let short : length (take n (drop j x)) ≡ n = length-take-le n (drop j x) (simp length-drop (omega arith)) in
      blank-number (take n (drop j x)) (bytes_take n (drop j x) (bytes_drop j x bytes))
      ∙ ap (λ (k : ℕ). eqb (number_in (take n (drop j x))) (256 ^ k - 1)) short

  word-le : (j : ℕ) → number_in (take 8 (drop j x)) ≤ 2 ^ 64 - 1
  word-le j =
      let small = number_lt 8 (take 8 (drop j x)) (bytes_take 8 (drop j x) (bytes_drop j x bytes)) (simp length-take (omega arith)) in
      omega arith

  -- the last word of a slot is all that follows the others
  last_word : all_blank (drop 24 x) ≡ eqb (number_in (take 8 (drop 24 x))) (2 ^ 64 - 1)
  last_word =
      let all : take 8 (drop 24 x) ≡ drop 24 x = take_all 8 (drop 24 x) (simp length-drop (omega arith)) in
      ap all_blank (sym all) ∙ by_word 24 8 (omega arith)

  small-le : (j : ℕ) → number_in (take 4 (drop j x)) ≤ 2 ^ 32 - 1
  small-le j =
      let small = number_lt 4 (take 4 (drop j x)) (bytes_take 4 (drop j x) (bytes_drop j x bytes)) (simp length-take (omega arith)) in
      omega arith

  module _ (a b c d e : ℕ) (ea : a ≡ number_in (take 4 x)) (eb : b ≡ number_in (take 4 (drop 4 x))) (ec : c ≡ number_in (take 8 (drop 8 x)))
      (ed : d ≡ number_in (take 8 (drop 16 x))) (ee : e ≡ number_in (take 8 (drop 24 x))) where
    -- the five words, one after another
    in-turn : all_blank x
        ≡ (eqb a (2 ^ 32 - 1)
        && (eqb b (2 ^ 32 - 1) && (eqb c (2 ^ 64 - 1) && (eqb d (2 ^ 64 - 1) && eqb e (2 ^ 64 - 1)))))
    in-turn =
        let back : all_blank (drop 16 x) ≡ (eqb d (2 ^ 64 - 1) && eqb e (2 ^ 64 - 1)) =
        apart 16 8 ∙ (λ i. (by_word 16 8 (omega arith) ∙ ap (λ (n : ℕ). eqb n (2 ^ 64 - 1)) (sym ed)) i
        && (last_word ∙ ap (λ (n : ℕ). eqb n (2 ^ 64 - 1)) (sym ee)) i) in
        let middle : all_blank (drop 8 x) ≡ (eqb c (2 ^ 64 - 1) && (eqb d (2 ^ 64 - 1) && eqb e (2 ^ 64 - 1))) =
        apart 8 8 ∙ (λ i. (by_word 8 8 (omega arith) ∙ ap (λ (n : ℕ). eqb n (2 ^ 64 - 1)) (sym ec)) i && back i) in
        let half : all_blank (drop 4 x) ≡ (eqb b (2 ^ 32 - 1) && (eqb c (2 ^ 64 - 1) && (eqb d (2 ^ 64 - 1) && eqb e (2 ^ 64 - 1)))) =
        apart 4 4 ∙ (λ i. (by_word 4 4 (omega arith) ∙ ap (λ (n : ℕ). eqb n (2 ^ 32 - 1)) (sym eb)) i && middle i) in
        apart 0 4 ∙ (λ i. (by_word 0 4 (omega arith) ∙ ap (λ (n : ℕ). eqb n (2 ^ 32 - 1)) (sym ea)) i && half i)

    -- and by the bits that those of one size have in common
    pub whole-slot : all_blank x ≡ (eqb (bit_and a b) (2 ^ 32 - 1) && eqb (bit_and (bit_and c d) e) (2 ^ 64 - 1))
    whole-slot =
        let c-le : c ≤ 2 ^ 64 - 1 = omega (arith, word-le 8) in
        let front = common-full (2 ^ 32 - 1) a b (omega (arith, small-le 0)) (omega (arith, small-le 4)) in
        let two = common-full (2 ^ 64 - 1) c d c-le (omega (arith, word-le 16)) in
        let three = common-full (2 ^ 64 - 1) (bit_and c d) e (omega (arith, and_le_l c d)) (omega (arith, word-le 24)) in
        in-turn
        ∙ sym (and_assoc (eqb a (2 ^ 32 - 1)) (eqb b (2 ^ 32 - 1)) (eqb c (2 ^ 64 - 1) && (eqb d (2 ^ 64 - 1) && eqb e (2 ^ 64 - 1))))
        ∙ sym
        (λ i. front i
        && (three ∙ ap (λ (t : Bool). t && eqb e (2 ^ 64 - 1)) two ∙ and_assoc (eqb c (2 ^ 64 - 1)) (eqb d (2 ^ 64 - 1)) (eqb e (2 ^ 64 - 1))) i)

  pub after-reply : all_blank (drop 19 x)
      ≡ (eqb (number_in (take 4 (drop 19 x))) (2 ^ 32 - 1) && (eqb (get_or x 23 0) FF && eqb (number_in (take 8 (drop 24 x))) (2 ^ 64 - 1)))
  unfolding all_blank
  after-reply =
      apart 19 4
      ∙ (λ i. by_word 19 4 (omega arith) i && (ap all_blank (drop-cons x 23 0 (omega arith)) ∙ ap (λ (t : Bool). eqb (get_or x 23 0) FF && t) last_word) i)
