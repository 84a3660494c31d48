-- Where each mode's digits stand: bits 16 to 37 are the digits and zeros around them, and where the fill is clear they are nothing else.
use mathlib.Core.Path.{◌≡◌, ap, ap₂, ◌∙◌}
use mathlib.Core.Bool.{true, ◌&&◌}
use Prim.Native.Nat.{ℕ, ◌+◌, ◌-◌, ◌*◌, ◌/◌, ◌%◌, ◌^◌, ◌<◌, ◌≤◌}
use native.Mathlib.Omega.{arith}
use native.Mathlib.Nat.{add-zero, mul-div_cancel, mul-mod_left, mod-eq_of_lt, div-one}
use lib.Pow.{pow_pos}
use lib.Dec.{eqb}
use borrow.Author.Tests.{eqb-true}
use Rattle.frame.specs.Line.{field, put}
use Rattle.frame.specs.Charts.{one_bit, two_bits, feet_tens, decimal, inches, sixteenths}
use Rattle.frame.specs.Level.{Mode, width_of, mode_of, fractional_mode, decimal_mode, twenty_metre_mode, thirty_metre_mode, last_bit_of, fill_clear}
use Rattle.frame.proofs.EachMode.{every-mode}
use Rattle.frame.proofs.Both.{both}
use Rattle.promises_frame.proofs.Fields.{within, join}

pub record Placed (m : Mode) : Type 0 where
  pub holds : (n digits : ℕ) → digits < 2 ^ width_of m.row → field n 16 37 ≡ digits * 2 ^ (37 - last_bit_of m)
      → (field n m.first (last_bit_of m) ≡ digits) × (fill_clear n m.fill ≡ true)
  pub back : (n : ℕ) → fill_clear n m.fill ≡ true → field n 16 37 ≡ field n m.first (last_bit_of m) * 2 ^ (37 - last_bit_of m)
  pub narrow : (digits : ℕ) → digits < 2 ^ width_of m.row → digits * 2 ^ (37 - last_bit_of m) < 2 ^ 22
  pub moved : (digits : ℕ) → put digits (last_bit_of m) ≡ put (digits * 2 ^ (37 - last_bit_of m)) 37

part : (n c d l : ℕ) → 16 ≤ c → c ≤ d → d ≤ 37 → field n 16 37 ≡ l → field n c d ≡ l / 2 ^ (37 - d) % 2 ^ (d + 1 - c)
part n c d l p q r e = within n 16 37 c d p q r (omega arith) ∙ ap (λ (x : ℕ). x / 2 ^ (37 - d) % 2 ^ (d + 1 - c)) e

-- Digits at 17 to 31, in feet.
feet-holds : (n digits : ℕ) → digits < 2 ^ 15 → field n 16 37 ≡ digits * 2 ^ 6
    → (field n 17 31 ≡ digits) × (eqb (field n 16 16) 0 && (eqb (field n 32 37) 0 && true) ≡ true)
feet-holds n digits h e =
    let before : field n 16 16 ≡ 0 = part n 16 16 (digits * 2 ^ 6) (omega arith) (omega arith) (omega arith) e ∙ omega arith in
    let behind : field n 32 37 ≡ 0 = part n 32 37 (digits * 2 ^ 6) (omega arith) (omega arith) (omega arith) e ∙ omega arith in
    (part n 17 31 (digits * 2 ^ 6) (omega arith) (omega arith) (omega arith) e ∙ omega arith, rw (before, behind))

feet-back : (n : ℕ) → eqb (field n 16 16) 0 && (eqb (field n 32 37) 0 && true) ≡ true → field n 16 37 ≡ field n 17 31 * 2 ^ 6
feet-back n e =
    let p = both (eqb (field n 16 16) 0) (eqb (field n 32 37) 0 && true) e in
    let q = both (eqb (field n 32 37) 0) true p.1 in
    let before : field n 16 16 ≡ 0 = eqb-true (field n 16 16) 0 p.0 in
    let behind : field n 32 37 ≡ 0 = eqb-true (field n 32 37) 0 q.0 in
    sum (field n 16 37) (field n 16 16) (field n 17 37) (field n 32 37) (field n 17 31)
    (join n 16 16 37 (omega arith) (omega arith) (omega arith)) (join n 17 31 37 (omega arith) (omega arith) (omega arith)) before behind
  where
    sum : (w x y z v : ℕ) → w ≡ x * 2 ^ 21 + y → y ≡ v * 2 ^ 6 + z → x ≡ 0 → z ≡ 0 → w ≡ v * 2 ^ 6
    sum w x y z v a b c d = omega arith

-- Digits from 16 to a bit `last`, and fill after it, in metres.
metre-holds : (n digits last : ℕ) → 16 ≤ last → last < 37 → digits < 2 ^ (last + 1 - 16)
    → field n 16 37 ≡ digits * 2 ^ (37 - last) → (field n 16 last ≡ digits) × (eqb (field n (last + 1) 37) 0 && true ≡ true)
metre-holds n digits last p q h e =
    let l : ℕ = digits * 2 ^ (37 - last) in
    let size : 37 + 1 - (last + 1) ≡ 37 - last = omega arith in
    let behind : field n (last + 1) 37 ≡ 0
    = part n (last + 1) 37 l (omega arith) (omega arith) (omega arith) e ∙ ap₂ (λ (x y : ℕ). x % 2 ^ y) (div-one l) size ∙ mul-mod_left digits (2 ^ (37 - last)) in (
      part n 16 last l (omega arith) p (omega arith) e
          ∙ ap (λ (x : ℕ). x % 2 ^ (last + 1 - 16)) (mul-div_cancel digits (pow_pos (37 - last))) ∙ mod-eq_of_lt h,
      rw behind,
    )

metre-back : (n last : ℕ) → 16 ≤ last → last < 37 → eqb (field n (last + 1) 37) 0 && true ≡ true → field n 16 37 ≡ field n 16 last * 2 ^ (37 - last)
metre-back n last p q e =
    let behind : field n (last + 1) 37 ≡ 0 = eqb-true (field n (last + 1) 37) 0 (both (eqb (field n (last + 1) 37) 0) true e).0 in
    join n 16 last 37 (omega arith) (omega arith) (omega arith) ∙ rw behind (add-zero (field n 16 last * 2 ^ (37 - last)))

pub placed : (k : ℕ) → Placed (mode_of k)
unfolding fractional_mode decimal_mode twenty_metre_mode thirty_metre_mode width_of one_bit two_bits feet_tens decimal inches sixteenths
placed =
    every-mode Placed
    (record { holds = feet-holds; back = feet-back; narrow = λ digits h. omega arith; moved = λ digits. omega arith })
    (record { holds = feet-holds; back = feet-back; narrow = λ digits h. omega arith; moved = λ digits. omega arith })
    (record {
      holds = λ n digits. metre-holds n digits 32 (omega arith) (omega arith);
      back = λ n. metre-back n 32 (omega arith) (omega arith);
      narrow = λ digits h. omega arith;
      moved = λ digits. omega arith;
    })
    (record {
      holds = λ n digits. metre-holds n digits 33 (omega arith) (omega arith);
      back = λ n. metre-back n 33 (omega arith) (omega arith);
      narrow = λ digits h. omega arith;
      moved = λ digits. omega arith;
    })
