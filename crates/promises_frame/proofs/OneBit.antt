-- Numbers that differ in one bit. A number over another is their bits one after the other, so that one bit apart in either part is one bit apart in
-- the whole; and what is one bit apart can be turned round, moved and caught between.
use mathlib.Core.Path.{◌≡◌, refl, sym, ap, subst, ◌∙◌}
use mathlib.Core.Logic.{◌⊎◌, inl, inr}
use mathlib.Core.Bool.{Bool, true, false}
use Prim.Native.Nat.{ℕ, ◌+◌, ◌-◌, ◌*◌, ◌/◌, ◌%◌, ◌^◌, ◌<◌, ◌≤◌}
use native.Mathlib.Omega.{arith}
use borrow.Author.Tests.{eqb-true, eqb-false}
use lib.Dec.{eqb}
use lib.Pow.{shr-shr, high, low, mod-mod-pow, shl_lt, pow_pos}
use lib.Pow as Pow
use Rattle.promises_frame.specs.OneStep.{OneDiffers, bit_in, OneBitApart}
use Rattle.promises_frame.proofs.Cases.{by_le}

pub turned_round : {from to : ℕ} {x y : ℕ → ℕ} → OneDiffers from to x y → OneDiffers from to y x
turned_round d =
    record { place = d.place; there = d.there; differs = λ e. d.differs (sym e); others = λ i p q n. sym (d.others i p q n) }

-- The same bits, found elsewhere.
pub moved : {from to from' to' : ℕ} {x y x' y' : ℕ → ℕ} (by : ℕ) → from' ≡ from + by → to' ≡ to + by
    → ((i : ℕ) → from ≤ i → i ≤ to → x' (i + by) ≡ x i) → ((i : ℕ) → from ≤ i → i ≤ to → y' (i + by) ≡ y i)
    → OneDiffers from to x y → OneDiffers from' to' x' y'
moved {x' = x'} {y' = y'} by f t ex ey d =
    record {
      place = d.place + by;
      there = (omega (arith, d.there.0), omega (arith, d.there.1));
      differs = λ e. d.differs
          (sym (ex d.place d.there.0 d.there.1) ∙ e ∙ ey d.place d.there.0 d.there.1);
      others = λ i p q n.
          let back : i - by + by ≡ i = omega arith in
          ap x' (sym back) ∙ ex (i - by) (omega arith) (omega arith)
          ∙ d.others (i - by) (omega arith) (omega arith) (λ e. n (omega (arith, e)))
          ∙ sym (ey (i - by) (omega arith) (omega arith)) ∙ ap y' back;
    }

-- Bits that are each the one's or the other's are all the one's, or all the other's.
pub mixed : {from to : ℕ} {x y : ℕ → ℕ} → OneDiffers from to x y → (t : ℕ → ℕ)
    → ((i : ℕ) → from ≤ i → i ≤ to → (t i ≡ x i) ⊎ (t i ≡ y i))
    → ((i : ℕ) → from ≤ i → i ≤ to → t i ≡ x i) ⊎ ((i : ℕ) → from ≤ i → i ≤ to → t i ≡ y i)
mixed {from} {to} {x} {y} d t each = at_place (each d.place d.there.0 d.there.1)
  where
    here-or-not : {A : Type 0} (i : ℕ) → (i ≡ d.place → A) → (¬ (i ≡ d.place) → A) → A
    here-or-not {A} i f g = go (eqb i d.place) refl
      where
        go : (b : Bool) → eqb i d.place ≡ b → A
        go true e = f (eqb-true i d.place e)
        go false e = g (eqb-false i d.place e)

    as_one : (i : ℕ) → x i ≡ y i → (t i ≡ x i) ⊎ (t i ≡ y i) → (t i ≡ x i) × (t i ≡ y i)
    as_one i e (inl a) = (a, a ∙ e)
    as_one i e (inr b) = (b ∙ sym e, b)

    at_place : (t d.place ≡ x d.place) ⊎ (t d.place ≡ y d.place)
        → ((i : ℕ) → from ≤ i → i ≤ to → t i ≡ x i) ⊎ ((i : ℕ) → from ≤ i → i ≤ to → t i ≡ y i)
    at_place (inl a) =
        inl λ i p q. here-or-not i (λ e. ap t e ∙ a ∙ ap x (sym e)) (λ n. (as_one i (d.others i p q n) (each i p q)).0)
    at_place (inr b) =
        inr λ i p q. here-or-not i (λ e. ap t e ∙ b ∙ ap y (sym e)) (λ n. (as_one i (d.others i p q n) (each i p q)).1)

-- The bits of one number over another: first those of the upper, then those of the lower.
upper-bit : (w u hi lo i : ℕ) → lo < 2 ^ u → i ≤ w → bit_in (w + u) (hi * 2 ^ u + lo) i ≡ bit_in w hi i
upper-bit w u hi lo i l h =
    let n : ℕ = hi * 2 ^ u + lo in
    let cut : w + u - i ≡ u + (w - i) = omega arith in
    ap (λ (k : ℕ). n / 2 ^ k % 2) cut ∙ ap (λ (k : ℕ). k % 2) (sym (shr-shr n u (w - i)) ∙ ap (λ (k : ℕ). k / 2 ^ (w - i)) (high hi u l))

lower-bit : (w u hi lo i : ℕ) → lo < 2 ^ u → 1 ≤ i → i ≤ u → bit_in (w + u) (hi * 2 ^ u + lo) (w + i) ≡ bit_in u lo i
lower-bit w u hi lo i l p h =
    let n : ℕ = hi * 2 ^ u + lo in
    let k : ℕ = u - i in
    let cut : w + u - (w + i) ≡ u - i = omega arith in
    let whole : i - 1 + 1 + k ≡ u = omega arith in
    ap (λ (j : ℕ). n / 2 ^ j % 2) cut
    ∙ sym (mod-mod-pow (n / 2 ^ k) (i - 1) 1)
    ∙ ap (λ (j : ℕ). j % 2) (sym (Pow.field n (i - 1 + 1) k) ∙ ap (λ (j : ℕ). n % 2 ^ j / 2 ^ k) whole ∙ ap (λ (j : ℕ). j / 2 ^ k) (low hi u l))

-- One bit apart in the upper part, over the same lower part.
pub upper-step : (w u a b lo : ℕ) → lo < 2 ^ u → OneBitApart w a b → OneBitApart (w + u) (a * 2 ^ u + lo) (b * 2 ^ u + lo)
upper-step w u a b lo l d =
    record {
      place = d.place;
      there = (d.there.0, omega (arith, d.there.1));
      differs = λ e. d.differs (sym (upper-bit w u a lo d.place l d.there.1) ∙ e ∙ upper-bit w u b lo d.place l d.there.1);
      others = λ i p q n. by_le i w
          (λ h. upper-bit w u a lo i l h ∙ d.others i p h n ∙ sym (upper-bit w u b lo i l h))
          (λ h.
          let back : w + (i - w) ≡ i = omega arith in
          subst (λ (k : ℕ). bit_in (w + u) (a * 2 ^ u + lo) k ≡ bit_in (w + u) (b * 2 ^ u + lo) k) back
          (lower-bit w u a lo (i - w) l (omega arith) (omega arith) ∙ sym (lower-bit w u b lo (i - w) l (omega arith) (omega arith))));
    }

-- One bit apart in the lower part, under the same upper part.
pub lower-step : (w u hi a b : ℕ) → a < 2 ^ u → b < 2 ^ u → OneBitApart u a b → OneBitApart (w + u) (hi * 2 ^ u + a) (hi * 2 ^ u + b)
lower-step w u hi a b la lb d =
    record {
      place = w + d.place;
      there = (omega (arith, d.there.0), omega (arith, d.there.1));
      differs = λ e. d.differs
          (sym (lower-bit w u hi a d.place la d.there.0 d.there.1) ∙ e ∙ lower-bit w u hi b d.place lb d.there.0 d.there.1);
      others = λ i p q n. by_le i w (λ h. upper-bit w u hi a i la h ∙ sym (upper-bit w u hi b i lb h))
          (λ h.
          let back : w + (i - w) ≡ i = omega arith in
          subst (λ (k : ℕ). bit_in (w + u) (hi * 2 ^ u + a) k ≡ bit_in (w + u) (hi * 2 ^ u + b) k) back
          (lower-bit w u hi a (i - w) la (omega arith) (omega arith)
          ∙ d.others (i - w) (omega arith) (omega arith) (λ e. n (omega (arith, e)))
          ∙ sym (lower-bit w u hi b (i - w) lb (omega arith) (omega arith))));
    }

-- Zeros put before a number of w bits and after it.
pub among-zeros : (before w behind a b : ℕ) → a < 2 ^ w → b < 2 ^ w → OneBitApart w a b
    → OneBitApart (before + (w + behind)) (a * 2 ^ behind) (b * 2 ^ behind)
among-zeros before w behind a b la lb d =
    let u : ℕ = w + behind in
    let clean : (m : ℕ) → 0 * 2 ^ u + (m + 0) ≡ m = λ m. omega arith in
    let end : (m : ℕ) → m + 0 ≡ m = λ m. omega arith in
    let under : (m : ℕ) → m < 2 ^ w → m * 2 ^ behind + 0 < 2 ^ u = λ m l. subst (λ (k : ℕ). k < 2 ^ u) (sym (end (m * 2 ^ behind))) (shl_lt w behind l) in
    let whole = lower-step before u 0 (a * 2 ^ behind + 0) (b * 2 ^ behind + 0) (under a la) (under b lb) (upper-step w behind a b 0 (pow_pos behind) d) in
    subst (λ (m : ℕ). OneBitApart (before + u) m (b * 2 ^ behind)) (clean (a * 2 ^ behind))
    (subst (λ (m : ℕ). OneBitApart (before + u) (0 * 2 ^ u + (a * 2 ^ behind + 0)) m) (clean (b * 2 ^ behind)) whole)
