-- Three digits read as one number, or none where one of them is above 9. Assumes nothing.
use mathlib.Core.Path.{◌≡◌, refl, sym, ap, ◌∙◌}
use Rattle.std.specs.Prelude.{Option, Some, None}
use mathlib.Core.Bool.{Bool, true, false, ◌&&◌}
use Prim.Native.Nat.{ℕ, ◌+◌, ◌*◌, ◌/◌, ◌%◌, ◌<◌, ◌≤◌}
use native.Mathlib.Omega.{arith}
use borrow.Author.Tests.{leb-true, le-leb, eq-eqb, eqb-true}
use lib.Dec.{leb, eqb}
use Rattle.frame.specs.Pick.{pick}
use Rattle.frame.specs.Inside.Packed.{three_of}
use Rattle.frame.proofs.Both.{both_left, both_right}

-- the three digits, each decimal or not
abbrev pub decimals : ℕ → ℕ → ℕ → Bool
decimals h t u = leb h 9 && leb t 9 && leb u 9

abbrev pub number : ℕ → ℕ → ℕ → ℕ
number h t u = h * 100 + t * 10 + u

pub number-le : (h t u : ℕ) → decimals h t u ≡ true → number h t u ≤ 999
number-le h t u e =
    let ht = both_left (leb h 9 && leb t 9) (leb u 9) e in
    omega (arith, leb-true h 9 (both_left (leb h 9) (leb t 9) ht), leb-true t 9 (both_right (leb h 9) (leb t 9) ht), leb-true u 9 (both_right (leb h 9 && leb t 9) (leb u 9) e))

-- what the number that was read, or none, says of the digits
module _ (h t u : ℕ) where
  read : Bool → Option ℕ
  read b = pick b (Some (number h t u)) None

  pub was-bad : pick (decimals h t u) (Some (number h t u)) None ≡ None → decimals h t u ≡ false
  unfolding read
  was-bad e = go (decimals h t u) refl
    where
      go : (b : Bool) → decimals h t u ≡ b → decimals h t u ≡ false
      go true d = let z : Some (number h t u) ≡ None = sym (ap read d) ∙ e in cc
      go false d = d

  pub was-good : (m : ℕ) → pick (decimals h t u) (Some (number h t u)) None ≡ Some m → (decimals h t u ≡ true) × (number h t u ≡ m)
  unfolding read
  was-good m e = go (decimals h t u) refl
    where
      go : (b : Bool) → decimals h t u ≡ b → (decimals h t u ≡ true) × (number h t u ≡ m)
      go true d = let z : Some (number h t u) ≡ Some m = sym (ap read d) ∙ e in (d, (cc))
      go false d = let z : None ≡ Some m = sym (ap read d) ∙ e in cc

-- three digits in one number of 12 bits
pub in-twelve : (m : ℕ) → m % 4096 ≡ m / 256 % 16 * 256 + m / 16 % 16 * 16 + m % 16
in-twelve m = omega arith

-- the digits of a number up to 999
hundreds-le : (a : ℕ) → a ≤ 999 → a / 100 ≤ 9
hundreds-le a h = omega arith

parts : (a : ℕ) → (a / 10 % 10 ≤ 9) × ((a % 10 ≤ 9) × (a / 100 * 100 + a / 10 % 10 * 10 + a % 10 ≡ a))
parts a = (omega arith, (omega arith, omega arith))

-- numbers of such digits are equal where the digits are
same_digits : (h t u x y z : ℕ) → x ≤ 9 → y ≤ 9 → z ≤ 9 → t < 16 → u < 16 → h * 256 + t * 16 + u ≡ x * 256 + y * 16 + z → (h ≡ x) × ((t ≡ y) × (u ≡ z))
same_digits h t u x y z x9 y9 z9 t16 u16 e =
    let top : h ≡ x = omega (arith, y9, z9, t16, u16, e) in
    let mid : t ≡ y = omega (arith, z9, u16, top, e) in
    (top, (mid, omega (arith, top, mid, e)))

three_back : (h t u : ℕ) → h ≤ 9 → t ≤ 9 → u ≤ 9 → h * 256 + t * 16 + u ≡ three_of (number h t u)
three_back h t u h9 t9 u9 =
    let top : number h t u / 100 ≡ h = omega (arith, t9, u9) in
    let tens : number h t u / 10 ≡ h * 10 + t = omega (arith, u9) in
    let mid : (h * 10 + t) % 10 ≡ t = omega (arith, t9) in
    let low : number h t u % 10 ≡ u = omega (arith, u9) in
    rw (top, tens, mid, low)

-- they are those of an address, or not
module _ (h t u address : ℕ) (small : address ≤ 999) (h16 : h < 16) (t16 : t < 16) (u16 : u < 16) where
  pub matches : h * 256 + t * 16 + u ≡ three_of address → (decimals h t u && eqb (number h t u) address) ≡ true
  matches e =
      let p = parts address in
      let x = address / 100 in
      let y = address / 10 % 10 in
      let z = address % 10 in
      let d = same_digits h t u x y z (hundreds-le address small) p.0 p.1.0 t16 u16 e in
      let is : number h t u ≡ address = rw (d.0, d.1.0, d.1.1) p.1.1 in
      simp (le-leb h 9 (rw d.0 (hundreds-le address small)), le-leb t 9 (rw d.1.0 p.0), le-leb u 9 (rw d.1.1 p.1.0), eq-eqb (number h t u) address is)

  pub differs : (h * 256 + t * 16 + u ≡ three_of address → ⊥) → (decimals h t u && eqb (number h t u) address) ≡ false
  differs other = go (decimals h t u && eqb (number h t u) address) refl
    where
      go : (b : Bool) → (decimals h t u && eqb (number h t u) address) ≡ b → (decimals h t u && eqb (number h t u) address) ≡ false
      go false e = e
      go true e =
          let d = both_left (decimals h t u) (eqb (number h t u) address) e in
          let ht = both_left (leb h 9 && leb t 9) (leb u 9) d in
          let is = eqb-true (number h t u) address (both_right (decimals h t u) (eqb (number h t u) address) e) in
          absurd (other (rw (← is) (three_back h t u (leb-true h 9 (both_left (leb h 9) (leb t 9) ht)) (leb-true t 9 (both_right (leb h 9) (leb t 9) ht)) (leb-true u 9 (both_right (leb h 9 && leb t 9) (leb u 9) d)))))
