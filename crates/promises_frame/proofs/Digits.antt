-- Three decimal digits of a line from any bit on: what they read as, and that they are written as they were read.
use mathlib.Core.Path.{◌≡◌, refl, sym, ap, ap₂, subst, ◌∙◌}
use mathlib.Core.Bool.{Bool, true, false, ◌&&◌}
use Prim.Native.Nat.{ℕ, zero, suc, ◌+◌, ◌-◌, ◌*◌, ◌/◌, ◌%◌, ◌^◌, ◌<◌, ◌≤◌}
use native.Mathlib.Omega.{arith}
use lib.Dec.{eqb, leb}
use borrow.Author.Tests.{leb-true, le-leb}
use Rattle.frame.specs.Line.{field, bit, mark, three_decimal, three_digits}
use Rattle.frame.proofs.Three.{number-le}
use Rattle.frame.proofs.Both.{both}
use Rattle.promises_frame.proofs.Fields.{join, field_lt}

-- A mark and its bit.
pub mark-lt : (b : Bool) → mark b < 2
mark-lt true = omega arith
mark-lt false = omega arith

pub mark-1 : (b : Bool) → eqb (mark b) 1 ≡ b
mark-1 true = refl
mark-1 false = refl

pub bit-lt : (n i : ℕ) → bit n i < 2
bit-lt n i = subst (λ (x : ℕ). bit n i < 2 ^ x) (one i) (field_lt n i i)
  where
    one : (i : ℕ) → i + 1 - i ≡ 1
    one i = omega arith

pub mark-bit : (n i : ℕ) → mark (eqb (bit n i) 1) ≡ bit n i
mark-bit n i = go (bit n i) (bit-lt n i)
  where
    go : (b : ℕ) → b < 2 → mark (eqb b 1) ≡ b
    go zero h = refl
    go (suc zero) h = refl
    go (suc (suc b)) h = absurd (omega arith)

-- The digits of a number up to 999.
pub three : (v : ℕ) → v ≤ 999 → (v / 100 ≤ 9) × (v / 10 % 10 ≤ 9) × (v % 10 ≤ 9) × (v / 100 * 100 + v / 10 % 10 * 10 + v % 10 ≡ v)
three v h = (omega arith, omega arith, omega arith, omega arith)

-- Written as a number's digits, they are decimal and read as that number.
pub reads_three : (n a v : ℕ) → v ≤ 999 → field n a (a + 3) ≡ v / 100 → field n (a + 4) (a + 7) ≡ v / 10 % 10 → field n (a + 8) (a + 11) ≡ v % 10
    → (three_decimal n a ≡ true) × (three_digits n a ≡ v)
reads_three n a v h x y z =
    let t = three v h in
    (rw (x, y, z, le-leb (v / 100) 9 t.0, le-leb (v / 10 % 10) 9 t.1, le-leb (v % 10) 9 t.2), rw (x, y, z) t.3)

pub decimal-digits : (n a : ℕ) → three_decimal n a ≡ true → (field n a (a + 3) ≤ 9) × (field n (a + 4) (a + 7) ≤ 9) × (field n (a + 8) (a + 11) ≤ 9)
decimal-digits n a e =
    let x : ℕ = field n a (a + 3) in
    let y : ℕ = field n (a + 4) (a + 7) in
    let z : ℕ = field n (a + 8) (a + 11) in
    let p = both (leb x 9 && leb y 9) (leb z 9) e in
    let q = both (leb x 9) (leb y 9) p.0 in
    (leb-true x 9 q.0, leb-true y 9 q.1, leb-true z 9 p.1)

pub three-small : (n a : ℕ) → three_decimal n a ≡ true → three_digits n a ≤ 999
three-small n a e = number-le (field n a (a + 3)) (field n (a + 4) (a + 7)) (field n (a + 8) (a + 11)) e

-- The twelve bits are the three digits.
twelve : (n a : ℕ) → a + 11 ≤ 64 → field n a (a + 11) ≡ field n a (a + 3) * 2 ^ 8 + (field n (a + 4) (a + 7) * 2 ^ 4 + field n (a + 8) (a + 11))
twelve n a h =
    join n a (a + 3) (a + 11) (omega arith) (omega arith) h
    ∙ ap₂ (λ (x y : ℕ). field n a (a + 3) * 2 ^ x + y) (eight a) (ap (λ (x : ℕ). field n x (a + 11)) (fourth a)
    ∙ join n (a + 4) (a + 7) (a + 11) (omega arith) (omega arith) h
    ∙ ap₂ (λ (x y : ℕ). field n (a + 4) (a + 7) * 2 ^ x + field n y (a + 11)) (four a) (last a))
  where
    eight : (a : ℕ) → a + 11 - (a + 3) ≡ 8
    eight a = omega arith

    fourth : (a : ℕ) → a + 3 + 1 ≡ a + 4
    fourth a = omega arith

    four : (a : ℕ) → a + 11 - (a + 7) ≡ 4
    four a = omega arith

    last : (a : ℕ) → a + 7 + 1 ≡ a + 8
    last a = omega arith

-- Decimal digits that were read as a number are the digits of that number.
pub same_digits : (n w a v : ℕ) → a + 11 ≤ 64 → three_decimal n a ≡ true → three_digits n a ≡ v
    → field w a (a + 3) ≡ v / 100 → field w (a + 4) (a + 7) ≡ v / 10 % 10 → field w (a + 8) (a + 11) ≡ v % 10
    → field w a (a + 11) ≡ field n a (a + 11)
same_digits n w a v h e is x y z =
    let t = decimal-digits n a e in
    let d = apart (field n a (a + 3)) (field n (a + 4) (a + 7)) (field n (a + 8) (a + 11)) v t.0 t.1 t.2 is in
    twelve w a h ∙ ap₂ (λ (p q : ℕ). p * 2 ^ 8 + q) (x ∙ d.0) (ap₂ (λ (p q : ℕ). p * 2 ^ 4 + q) (y ∙ d.1) (z ∙ d.2)) ∙ sym (twelve n a h)
  where
    apart : (x y z v : ℕ) → x ≤ 9 → y ≤ 9 → z ≤ 9 → x * 100 + y * 10 + z ≡ v → (v / 100 ≡ x) × (v / 10 % 10 ≡ y) × (v % 10 ≡ z)
    apart x y z v px py pz e = (omega arith, omega arith, omega arith)
