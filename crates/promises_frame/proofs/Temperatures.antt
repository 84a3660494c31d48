-- A temperature that was read, written again: the parts that it was read from are the parts that are written, but for those not told.
use mathlib.Core.Path.{◌≡◌, refl, sym, ap, subst, ◌∙◌}
use mathlib.Core.Bool.{Bool, true, false, true≢false}
use Prim.Native.Nat.{ℕ, zero, suc, ◌+◌, ◌-◌, ◌*◌, ◌/◌, ◌%◌, ◌<◌, ◌≤◌, min}
use native.Mathlib.Omega.{arith}
use lib.Arith.{digits_div, digits_mod}
use lib.Dec.{eqb}
use lib.IntN.{ℤ, pos}
use borrow.Author.Tests.{le-leb, eqb-true}
use Rattle.frame.specs.declared.Temperature.{Temperature}
use Rattle.frame.specs.declared.Temperature.TheVariants.{Degrees, Above, Below}
use Rattle.frame.specs.Pick.{pick}
use Rattle.frame.specs.Line.{field, bit, mark, three_decimal, three_digits}
use Rattle.frame.specs.Temperature.{limit, told, bad, signed, is_plus, magnitude, degrees_at, hundreds1900, heat1900, heat1800, put_degrees_1900, put_heat_1900, put_heat_1800, heat_of, put_heat, is_absent}
use Rattle.promises_frame.specs.NotTold.{is_range_error, NotTold, sign_of_zero, sign_beside, hundred_beside, digits_beside}
use Rattle.promises_frame.specs.Temperatures.{TemperatureBothWays}
use Rattle.promises_frame.proofs.Cases.{by_le, not-1, not-true}
use Rattle.promises_frame.proofs.Fields.{same-within}
use Rattle.promises_frame.proofs.Digits.{bit-lt, mark-bit, three-small, same_digits}
use Rattle.promises_frame.proofs.TemperaturesBack.{parts-1900, degrees1800, parts-1800, reads-back, in-range}

-- The temperature bits of a line w hold what those of a line n tell of the temperature t.
pub record Kept (is1800 : Bool) (t : Temperature) (w n : ℕ) : Type 0 where
  pub there : is_absent t ≡ false
  pub no_error : is1800 ≡ false → is_range_error t ≡ false
  pub at_40 : bit w 40 ≡ bit n 40
  pub at_41 : ¬ (t ≡ Degrees (pos 0)) → is_range_error t ≡ false → bit w 41 ≡ bit n 41
  pub at_42 : is_range_error t ≡ false → bit w 42 ≡ bit n 42
  pub at_43 : bit w 43 ≡ bit n 43
  pub digits : is_range_error t ≡ false → field w 44 55 ≡ field n 44 55

-- A sign and a number of tenths, taken apart again.
pub magnitude-signed : (plus : Bool) (m : ℕ) → magnitude (signed plus m) ≡ m
magnitude-signed true m = refl
magnitude-signed false zero = refl
magnitude-signed false (suc m) = refl

plus-signed : (plus : Bool) (m : ℕ) → ¬ (Degrees (signed plus m) ≡ Degrees (pos 0)) → is_plus (signed plus m) ≡ plus
plus-signed true m h = refl
plus-signed false zero h = absurd (h refl)
plus-signed false (suc m) h = refl

-- What a temperature that was read says of the test before it.
told-if : (b : Bool) (x t : Temperature) → pick b (told x) bad ≡ told t → (b ≡ true) × (x ≡ t)
told-if true x t e = (refl, cc)
told-if false x t e = let z : ◌≡◌ {A = ℕ} 0 1 = cc in absurd (omega arith)

-- Hundreds from their inverted bits, and back.
inverted : (a c d : ℕ) → a < 2 → c < 2 → d < 2
    → (1 - ((1 - a) + 2 * (1 - c) + 4 * (1 - d)) % 2 ≡ a)
    × (1 - ((1 - a) + 2 * (1 - c) + 4 * (1 - d)) / 2 % 2 ≡ c)
    × (1 - ((1 - a) + 2 * (1 - c) + 4 * (1 - d)) / 4 % 2 ≡ d)
inverted a c d pa pc pd = (omega arith, omega arith, omega arith)

-- The sign that is written is the sign that was read, unless they are the sign of a zero.
sign_kept : (n m : ℕ) → ¬ (Degrees (signed (eqb (bit n 41) 1) m) ≡ Degrees (pos 0)) → mark (is_plus (signed (eqb (bit n 41) 1) m)) ≡ bit n 41
sign_kept n m h = ap mark (plus-signed (eqb (bit n 41) 1) m h) ∙ mark-bit n 41

-- The digits under h hundreds.
le-lt-suc : {a : ℕ} → a ≤ 999 → a < 1000
le-lt-suc h = omega arith

digits-kept : (n w h : ℕ) → three_decimal n 44 ≡ true
    → let m : ℕ = h * 1000 + three_digits n 44 in
    field w 44 47 ≡ m % 1000 / 100 → field w 48 51 ≡ m % 1000 / 10 % 10 → field w 52 55 ≡ m % 1000 % 10
    → field w 44 55 ≡ field n 44 55
digits-kept n w h dec x y z =
    same_digits n w 44 ((h * 1000 + three_digits n 44) % 1000) (omega arith) dec (sym (digits_mod h (le-lt-suc (three-small n 44 dec)))) x y z

-- Degrees as a 1900 reads them, written again.
abbrev tenths1900 : ℕ → ℕ
tenths1900 n = hundreds1900 n * 1000 + three_digits n 44

kept-1900 : (n : ℕ) → three_decimal n 44 ≡ true
    → let d : ℤ = signed (eqb (bit n 41) 1) (tenths1900 n) in Kept false (Degrees d) (put_degrees_1900 (is_plus d) (tenths1900 n)) n
kept-1900 n dec =
    let m : ℕ = tenths1900 n in
    let d : ℤ = signed (eqb (bit n 41) 1) m in
    let w : ℕ = put_degrees_1900 (is_plus d) m in
    let of = parts-1900 (is_plus d) m in
    let high : m / 1000 ≡ hundreds1900 n = digits_div (hundreds1900 n) (le-lt-suc (three-small n 44 dec)) in
    let h = inverted (bit n 40) (bit n 42) (bit n 43) (bit-lt n 40) (bit-lt n 42) (bit-lt n 43) in
    record {
      there = refl;
      no_error = λ _. refl;
      at_40 = of.at_40 ∙ ap (λ (k : ℕ). 1 - k % 2) high ∙ h.0;
      at_41 = λ z _. of.at_41 ∙ sign_kept n m z;
      at_42 = λ _. of.at_42 ∙ ap (λ (k : ℕ). 1 - k / 2 % 2) high ∙ h.1;
      at_43 = of.at_43 ∙ ap (λ (k : ℕ). 1 - k / 4 % 2) high ∙ h.2;
      digits = λ _. digits-kept n w (hundreds1900 n) dec of.tens of.ones of.tenths;
    }

again-1900 : (n : ℕ) (t : Temperature) → heat1900 n ≡ told t → Kept false t (put_heat_1900 t) n
unfolding heat1900 put_heat_1900
again-1900 n t e =
    let m : ℕ = tenths1900 n in
    let d : ℤ = signed (eqb (bit n 41) 1) m in
    let got = told-if (three_decimal n 44) (Degrees d) t e in
    let small : m ≤ limit false = bounded (bit n 40) (bit n 42) (bit n 43) (three_digits n 44) (three-small n 44 got.0) in
    let size : m ≡ min (magnitude d) (limit false) = sym (ap (λ (k : ℕ). min k (limit false)) (magnitude-signed (eqb (bit n 41) 1) m) ∙ least m (limit false) small) in
    subst (λ (t : Temperature). Kept false t (put_heat_1900 t) n) got.1
    (subst (λ (k : ℕ). Kept false (Degrees d) (put_degrees_1900 (is_plus d) k) n) size (kept-1900 n got.0))
  where
    bounded : (a c d r : ℕ) → r ≤ 999 → ((1 - a) + 2 * (1 - c) + 4 * (1 - d)) * 1000 + r ≤ limit false
    bounded a c d r h = omega arith

    least : (a b : ℕ) → a ≤ b → min a b ≡ a
    least a b h = omega arith

-- Degrees as an 1800 reads them, written again.
abbrev tenths1800 : ℕ → ℕ
tenths1800 n = bit n 42 * 1000 + three_digits n 44

kept-1800 : (n : ℕ) → bit n 40 ≡ 0 → bit n 43 ≡ 0 → three_decimal n 44 ≡ true → tenths1800 n ≤ limit true
    → let d : ℤ = signed (eqb (bit n 41) 1) (tenths1800 n) in Kept true (Degrees d) (degrees1800 (is_plus d) (tenths1800 n)) n
kept-1800 n a z dec small =
    let m : ℕ = tenths1800 n in
    let d : ℤ = signed (eqb (bit n 41) 1) m in
    let of = parts-1800 (is_plus d) m small in
    record {
      there = refl;
      no_error = λ _. refl;
      at_40 = of.at_40 ∙ sym a;
      at_41 = λ p _. of.at_41 ∙ sign_kept n m p;
      at_42 = λ _. of.at_42 ∙ digits_div (bit n 42) (le-lt-suc (three-small n 44 dec));
      at_43 = of.at_43 ∙ sym z;
      digits = λ _. digits-kept n (degrees1800 (is_plus d) m) (bit n 42) dec of.tens of.ones of.tenths;
    }

degrees-1800 : (n : ℕ) (t : Temperature) → bit n 40 ≡ 0 → bit n 43 ≡ 0 → degrees_at n (bit n 42) ≡ told t → Kept true t (put_heat_1800 t) n
unfolding put_heat_1800
degrees-1800 n t a z e =
    let m : ℕ = tenths1800 n in
    let d : ℤ = signed (eqb (bit n 41) 1) m in
    let got = told-if (three_decimal n 44) (Degrees d) t e in
    let size : magnitude d ≡ m = magnitude-signed (eqb (bit n 41) 1) m in
    let small : m ≤ limit true = bounded (bit n 42) (three_digits n 44) (bit-lt n 42) (three-small n 44 got.0) in
    subst (λ (t : Temperature). Kept true t (put_heat_1800 t) n) got.1
    (rw (size, le-leb m (limit true) small) (kept-1800 n a z got.0 small))
  where
    bounded : (h r : ℕ) → h < 2 → r ≤ 999 → h * 1000 + r ≤ limit true
    bounded h r few small = omega arith

kept_above : (n : ℕ) → bit n 40 ≡ 0 → bit n 43 ≡ 1 → Kept true Above (put_heat_1800 Above) n
unfolding put_heat_1800
kept_above n a z =
    record {
      there = refl;
      no_error = λ p. absurd (true≢false p);
      at_40 = sym a;
      at_41 = λ _ p. absurd (true≢false p);
      at_42 = λ p. absurd (true≢false p);
      at_43 = sym z;
      digits = λ p. absurd (true≢false p);
    }

kept-below : (n : ℕ) → bit n 40 ≡ 1 → bit n 43 ≡ 1 → Kept true Below (put_heat_1800 Below) n
unfolding put_heat_1800
kept-below n a z =
    record {
      there = refl;
      no_error = λ p. absurd (true≢false p);
      at_40 = sym a;
      at_41 = λ _ p. absurd (true≢false p);
      at_42 = λ p. absurd (true≢false p);
      at_43 = sym z;
      digits = λ p. absurd (true≢false p);
    }

again-1800 : (n : ℕ) (t : Temperature) → heat1800 n ≡ told t → Kept true t (put_heat_1800 t) n
unfolding heat1800
again-1800 n t e = go (eqb (bit n 43) 1) refl (eqb (bit n 40) 1) refl e
  where
    go : (x : Bool) → eqb (bit n 43) 1 ≡ x → (y : Bool) → eqb (bit n 40) 1 ≡ y
        → pick x (pick y (told Below) (told Above)) (pick y bad (degrees_at n (bit n 42))) ≡ told t → Kept true t (put_heat_1800 t) n
    go true p true q e =
        let is : Below ≡ t = cc in
        subst (λ (t : Temperature). Kept true t (put_heat_1800 t) n) is (kept-below n (eqb-true (bit n 40) 1 q) (eqb-true (bit n 43) 1 p))
    go true p false q e =
        let is : Above ≡ t = cc in
        subst (λ (t : Temperature). Kept true t (put_heat_1800 t) n) is (kept_above n (not-1 (bit n 40) (bit-lt n 40) q) (eqb-true (bit n 43) 1 p))
    go false p true q e = let z : ◌≡◌ {A = ℕ} 0 1 = cc in absurd (omega arith)
    go false p false q e = degrees-1800 n t (not-1 (bit n 40) (bit-lt n 40) q) (not-1 (bit n 43) (bit-lt n 43) p) e

pub again : (is1800 : Bool) (n : ℕ) (t : Temperature) → heat_of is1800 n ≡ told t → Kept is1800 t (put_heat is1800 t) n
again true = again-1800
again false = again-1900

-- The bits one by one: a position that is told is one of the parts.
error-free : (is1800 : Bool) (t : Temperature) → (is1800 ≡ false → is_range_error t ≡ false) → ¬ ((is1800 ≡ true) × (is_range_error t ≡ true)) → is_range_error t ≡ false
error-free true t h k = not-true (is_range_error t) (λ z. k (refl, z))
error-free false t h k = h refl

pub kept-bits : (is1800 : Bool) (t : Temperature) (w n : ℕ) → Kept is1800 t w n → (i : ℕ) → 40 ≤ i → i ≤ 55 → ¬ NotTold is1800 t i → bit w i ≡ bit n i
kept-bits is1800 t w n kept i from to free =
    by_le i 40 (λ h. at 40 (omega arith) kept.at_40) λ p.
    by_le i 41 (λ h. let e : 41 ≡ i = omega arith in
    at 41 e (kept.at_41 (λ z. free (there 41 e (sign_of_zero z))) (error-free is1800 t kept.no_error (λ z. free (there 41 e (sign_beside z.0 z.1)))))) λ q.
    by_le i 42 (λ h. let e : 42 ≡ i = omega arith in
    at 42 e (kept.at_42 (error-free is1800 t kept.no_error (λ z. free (there 42 e (hundred_beside z.0 z.1)))))) λ r.
    by_le i 43 (λ h. at 43 (omega arith) kept.at_43) λ s.
    same-within w n 44 55 i i (omega arith) (omega arith) to (omega arith)
    (kept.digits (error-free is1800 t kept.no_error (λ z. free (digits_beside z.0 z.1 i (omega arith) to))))
  where
    at : (k : ℕ) → k ≡ i → bit w k ≡ bit n k → bit w i ≡ bit n i
    at k e h = subst (λ (x : ℕ). bit w x ≡ bit n x) e h

    there : (k : ℕ) → k ≡ i → NotTold is1800 t k → NotTold is1800 t i
    there k e h = subst (NotTold is1800 t) e h

pub temperature-both-ways : TemperatureBothWays
temperature-both-ways =
    record {
      reads-back = reads-back;
      in-range = in-range;
      read-then-written = λ is1800 n t e. kept-bits is1800 t (put_heat is1800 t) n (again is1800 n t e);
    }
