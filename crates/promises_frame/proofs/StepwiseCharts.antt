-- The six charts of document 01 are stepwise. A computed test over the places of a chart says so of each: the code at the place is within the width,
-- and differs from the next code in one bit, which is sought first.
use mathlib.Core.Path.{◌≡◌, ap, subst}
use mathlib.Core.Bool.{Bool, not, ◌&&◌}
use Prim.Native.Nat.{ℕ, zero, suc, ◌+◌, ◌-◌, ◌%◌, ◌^◌}
use native.Mathlib.Omega.{arith}
use borrow.Author.Tests.{eq-eqb, ne_eqb}
use lib.Dec.{T, eqb, ltb, leb, ltb→lt, leb→le, eqb→eq}
use lib.ListN.{get_or}
use Rattle.frame.specs.Pick.{pick}
use Rattle.frame.specs.Charts.{Chart, size_of, one_bit, two_bits, feet_tens, decimal, inches, sixteenths}
use Rattle.frame.proofs.Both.{and_left, and_right}
use Rattle.frame.proofs.Tables.{all_below, at-below}
use Rattle.promises_frame.specs.OneStep.{bit_in, OneBitApart, Stepwise}

-- The last of the first k bits in which two numbers differ.
abbrev sought : ℕ → ℕ → ℕ → ℕ → ℕ
sought width n m zero = zero
sought width n m (suc k) = pick (eqb (bit_in width n (suc k)) (bit_in width m (suc k))) (sought width n m k) (suc k)

-- The bits of a number, but 0 at one place.
abbrev beside : ℕ → ℕ → ℕ → ℕ → ℕ
beside width n p i = pick (eqb i p) 0 (bit_in width n i)

abbrev apart : ℕ → ℕ → ℕ → ℕ → Bool
apart width n m p =
    (leb 1 p && leb p width)
    && (not (eqb (bit_in width n p) (bit_in width m p)) && all_below (λ (j : ℕ). eqb (beside width n p (j + 1)) (beside width m p (j + 1))) width)

elsewhere : (i p a b : ℕ) → ¬ (i ≡ p) → pick (eqb i p) 0 a ≡ pick (eqb i p) 0 b → a ≡ b
elsewhere i p a b n e = rw (ne_eqb i p n) at e

one_apart : (width n m p : ℕ) → T (apart width n m p) → OneBitApart width n m
one_apart width n m p h =
    let same : ℕ → Bool = λ j. eqb (beside width n p (j + 1)) (beside width m p (j + 1)) in
    let differ : Bool = not (eqb (bit_in width n p) (bit_in width m p)) in
    let inside = and_left (leb 1 p && leb p width) (differ && all_below same width) h in
    let rest = and_right (leb 1 p && leb p width) (differ && all_below same width) h in
    record {
      place = p;
      there = (leb→le 1 p (and_left (leb 1 p) (leb p width) inside), leb→le p width (and_right (leb 1 p) (leb p width) inside));
      differs = λ e. subst T (ap not (eq-eqb (bit_in width n p) (bit_in width m p) e)) (and_left differ (all_below same width) rest);
      others = λ i l u other.
          let back : i - 1 + 1 ≡ i = omega arith in
          let at = eqb→eq (beside width n p (i - 1 + 1)) (beside width m p (i - 1 + 1))
          (at-below same width (and_right differ (all_below same width) rest) (i - 1) (omega arith)) in
          elsewhere i p (bit_in width n i) (bit_in width m i) other (subst (λ (k : ℕ). beside width n p k ≡ beside width m p k) back at);
    }

stepwise : (c : Chart) → T (ltb 0 (size_of c)) → T (eqb (size_of c % 2) 0)
    → T (all_below (λ (i : ℕ). ltb (get_or c.codes i 0) (2 ^ c.width)) (size_of c))
    → T (all_below (λ (i : ℕ). apart c.width (get_or c.codes i 0) (get_or c.codes (i + 1) 0)
    (sought c.width (get_or c.codes i 0) (get_or c.codes (i + 1) 0) c.width)) (size_of c - 1))
    → Stepwise c
stepwise c some even narrow steps =
    let code : ℕ → ℕ = λ i. get_or c.codes i 0 in
    let place : ℕ → ℕ = λ i. sought c.width (code i) (code (i + 1)) c.width in
    record {
      some = ltb→lt 0 (size_of c) some;
      even = omega (arith, eqb→eq (size_of c % 2) 0 even);
      within = λ i k. ltb→lt (code i) (2 ^ c.width) (at-below (λ (i : ℕ). ltb (code i) (2 ^ c.width)) (size_of c) narrow i k);
      neighbours = λ i k. one_apart c.width (code i) (code (i + 1)) (place i)
          (at-below (λ (i : ℕ). apart c.width (code i) (code (i + 1)) (place i)) (size_of c - 1) steps i (omega arith));
    }

pub one_bit-stepwise : Stepwise one_bit
unfolding one_bit
one_bit-stepwise = stepwise one_bit tt tt tt tt

pub two_bits-stepwise : Stepwise two_bits
unfolding two_bits
two_bits-stepwise = stepwise two_bits tt tt tt tt

pub feet_tens-stepwise : Stepwise feet_tens
unfolding feet_tens
feet_tens-stepwise = stepwise feet_tens tt tt tt tt

pub decimal-stepwise : Stepwise decimal
unfolding decimal
decimal-stepwise = stepwise decimal tt tt tt tt

pub inches-stepwise : Stepwise inches
unfolding inches
inches-stepwise = stepwise inches tt tt tt tt

pub sixteenths-stepwise : Stepwise sixteenths
unfolding sixteenths
sixteenths-stepwise = stepwise sixteenths tt tt tt tt
