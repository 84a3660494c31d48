-- The digit reader, one digit at a time: what the definition gives for the top digit of a row kept in a word, and how large the level
-- so far can grow. Assumes nothing.
use mathlib.Core.Path.{◌≡◌, refl, sym, ap, ◌∙◌}
use mathlib.Core.Bool.{Bool, true, false}
use Prim.Native.Nat.{ℕ, zero, suc, ◌+◌, ◌-◌, ◌*◌, ◌/◌, ◌%◌, ◌^◌, ◌<◌, ◌≤◌}
use native.Mathlib.Nat.{pow-suc, mul-le-mul_left, mul-le-mul_right, le_trans, le_of_eq, mul_assoc, mul_comm, le-mul_of_pos_right, one-le-pow}
use native.Mathlib.Decide.{ℕ_discrete}
use native.Mathlib.Omega.{arith}
use borrow.Author.Tests.{ltb-true}
use lib.Dec.{ltb, lit≤}
use Rattle.frame.specs.Charts.{Chart, size_of, is_odd, turned, place_in}
use Rattle.frame.specs.Level.{Level, known, lost, width_of, read_row}
use Rattle.frame.specs.Inside.Packed.{chart_of, digit_of, digit_row, Below}
use Rattle.frame.proofs.Tables.{size-high}

-- n and n - 1
pub down : (P : ℕ → ℕ → Type 0) → ((k : ℕ) → P (suc k) k) → (n : ℕ) → 0 < n → P n (n - 1)
down P f zero h = absurd (omega arith)
down P f (suc k) h = rw (pred-suc k) (f k)
  where
    pred-suc : (k : ℕ) → suc k - 1 ≡ k
    pred-suc k = omega arith

pub row-width : (row left : ℕ) → width_of (digit_row row left) ≡ 4 * left
unfolding width_of digit_row
row-width row zero = refl
row-width row (suc left) = rw (row-width (row / 16) left) (omega arith)

pub turned_lt : (odd : Bool) (n d : ℕ) → d < n → turned odd n d < n
unfolding turned
turned_lt true n d h = omega arith
turned_lt false n d h = h

-- whether a code is in its chart, by what was read
module _ (c : Chart) (code : ℕ) (odd : Bool) where
  in_chart : Bool
  in_chart = ltb (place_in code c.codes) (size_of c)

  pub is-in : (digit_of c code odd ≡ 16 → ⊥) → ltb (place_in code c.codes) (size_of c) ≡ true
  unfolding in_chart digit_of
  is-in read = go in_chart refl
    where
      go : (t : Bool) → in_chart ≡ t → in_chart ≡ true
      go true e = e
      go false e = absurd (read (rw e))

  pub is-out : size_of c ≤ 16 → digit_of c code odd ≡ 16 → ltb (place_in code c.codes) (size_of c) ≡ false
  unfolding in_chart digit_of
  is-out small none = go in_chart refl
    where
      go : (t : Bool) → in_chart ≡ t → in_chart ≡ false
      go true e = absurd (omega (arith, turned_lt odd (size_of c) (place_in code c.codes) (ltb-true _ _ e), rw e at none))
      go false e = e

  -- the digit that was read, and that it is below the size of its chart
  pub digit-is : (digit_of c code odd ≡ 16 → ⊥) → digit_of c code odd ≡ turned odd (size_of c) (place_in code c.codes)
  unfolding digit_of
  digit-is read = rw (is-in read)

  pub digit_lt : (digit_of c code odd ≡ 16 → ⊥) → digit_of c code odd < size_of c
  digit_lt read = rw (digit-is read) (turned_lt odd (size_of c) (place_in code c.codes) (ltb-true _ _ (is-in read)))

-- one step of the reader over a row kept in a word
module _ (row k bits : ℕ) (odd : Bool) (sofar place : ℕ) where
  -- the top digit is in no chart
  pub step-lost : digit_of (chart_of (row % 16)) (bits / 2 ^ (4 * k) % 16) odd ≡ 16 → read_row (digit_row row (suc k)) bits odd sofar place ≡ lost place
  unfolding read_row digit_row
  step-lost e = simp (row-width (row / 16) k, is-out (chart_of (row % 16)) (bits / 2 ^ (4 * k) % 16) odd (size-high (row % 16)) e)

  -- the top digit is read, and the rest goes on from it
  pub step-read : (digit_of (chart_of (row % 16)) (bits / 2 ^ (4 * k) % 16) odd ≡ 16 → ⊥)
      → read_row (digit_row row (suc k)) bits odd sofar place
      ≡ read_row (digit_row (row / 16) k) bits (is_odd (digit_of (chart_of (row % 16)) (bits / 2 ^ (4 * k) % 16) odd)) (sofar * size_of (chart_of (row % 16)) + digit_of (chart_of (row % 16)) (bits / 2 ^ (4 * k) % 16) odd) (suc place)
  unfolding read_row digit_row
  step-read e =
      simp (row-width (row / 16) k, is-in (chart_of (row % 16)) (bits / 2 ^ (4 * k) % 16) odd e, digit-is (chart_of (row % 16)) (bits / 2 ^ (4 * k) % 16) odd e)

-- the same steps by the number of digits left
module _ (row left bits : ℕ) (odd : Bool) (sofar place : ℕ) (some : 0 < left) where
  pub left-lost : digit_of (chart_of (row % 16)) (bits / 2 ^ (4 * (left - 1)) % 16) odd ≡ 16 → read_row (digit_row row left) bits odd sofar place ≡ lost place
  left-lost =
      down (λ (n k : ℕ). digit_of (chart_of (row % 16)) (bits / 2 ^ (4 * k) % 16) odd ≡ 16 → read_row (digit_row row n) bits odd sofar place ≡ lost place)
      (λ k. step-lost row k bits odd sofar place) left some

  pub left-read : (digit_of (chart_of (row % 16)) (bits / 2 ^ (4 * (left - 1)) % 16) odd ≡ 16 → ⊥)
      → read_row (digit_row row left) bits odd sofar place
      ≡ read_row (digit_row (row / 16) (left - 1)) bits (is_odd (digit_of (chart_of (row % 16)) (bits / 2 ^ (4 * (left - 1)) % 16) odd)) (sofar * size_of (chart_of (row % 16)) + digit_of (chart_of (row % 16)) (bits / 2 ^ (4 * (left - 1)) % 16) odd) (suc place)
  left-read =
      down (λ (n k : ℕ). (digit_of (chart_of (row % 16)) (bits / 2 ^ (4 * k) % 16) odd ≡ 16 → ⊥) → read_row (digit_row row n) bits odd sofar place ≡ read_row (digit_row (row / 16) k) bits (is_odd (digit_of (chart_of (row % 16)) (bits / 2 ^ (4 * k) % 16) odd)) (sofar * size_of (chart_of (row % 16)) + digit_of (chart_of (row % 16)) (bits / 2 ^ (4 * k) % 16) odd) (suc place))
      (λ k. step-read row k bits odd sofar place) left some

-- a level with one digit more takes no more room than was left for it: four bits a digit
room-step : (sofar n d : ℕ) → d < n → n ≤ 16 → (k : ℕ) → (sofar * n + d + 1) * 16 ^ k ≤ (sofar + 1) * 16 ^ suc k
room-step sofar n d h small k =
    le_trans (mul-le-mul_right (16 ^ k) grown)
    (le_of_eq (mul_assoc (sofar + 1) 16 (16 ^ k) ∙ ap (λ (x : ℕ). (sofar + 1) * x) (mul_comm 16 (16 ^ k) ∙ sym (pow-suc 16 k))))
  where
    part : (sofar + 1) * n ≤ (sofar + 1) * 16
    part = mul-le-mul_left (sofar + 1) small

    grown : sofar * n + d + 1 ≤ (sofar + 1) * 16
    grown = omega (arith, part)

pub room : (most sofar n d : ℕ) → d < n → n ≤ 16 → (left : ℕ) → 0 < left → (sofar + 1) * 16 ^ left ≤ most → (sofar * n + d + 1) * 16 ^ (left - 1) ≤ most
room most sofar n d h small =
    down (λ (m k : ℕ). (sofar + 1) * 16 ^ m ≤ most → (sofar * n + d + 1) * 16 ^ k ≤ most)
    (λ k fits. le_trans (room-step sofar n d h small k) fits)

pub room-now : (sofar left : ℕ) → (sofar + 1) * 16 ^ left ≤ 2 ^ 32 → sofar < 2 ^ 32
room-now sofar left fits = omega (arith, le-mul_of_pos_right (sofar + 1) (one-le-pow left 16 (lit≤ tt)))

pub below_more : (b b' : ℕ) → b ≤ b' → (l : Level) → Below b l → Below b' l
below_more b b' h (known v) w = omega arith
below_more b b' h (lost k) w = tt

-- a row's level is below what four bits a digit leave room for
pub row_below : (row left bits : ℕ) (odd : Bool) (sofar place : ℕ) → Below ((sofar + 1) * 16 ^ left) (read_row (digit_row row left) bits odd sofar place)
unfolding read_row digit_row
row_below row zero bits odd sofar place = omega arith
row_below row (suc k) bits odd sofar place =
    let c = chart_of (row % 16) in
    let d = digit_of c (bits / 2 ^ (4 * k) % 16) odd in
    elim (ℕ_discrete d 16) [
      | yes e ↦ rw (step-lost row k bits odd sofar place e) tt
      | no e ↦
          rw (step-read row k bits odd sofar place e)
          (below_more ((sofar * size_of c + d + 1) * 16 ^ k) ((sofar + 1) * 16 ^ suc k)
          (room-step sofar (size_of c) d (digit_lt c (bits / 2 ^ (4 * k) % 16) odd e) (size-high (row % 16)) k)
          (read_row (digit_row (row / 16) k) bits (is_odd d) (sofar * size_of c + d) (suc place)) (row_below (row / 16) k bits (is_odd d) (sofar * size_of c + d) (suc place)))
    ]
