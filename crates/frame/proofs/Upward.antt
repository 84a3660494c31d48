-- Writing from the ones digit up gives what writing from the top gives. The row is taken apart at its last digit: the oddness of the digit
-- above the last one is the oddness of all that stands above it, because every chart has an even number of values. Assumes nothing.
use mathlib.Core.Path.{◌≡◌, refl, sym, ap, ◌∙◌}
use mathlib.Core.Bool.{Bool, true, false}
use mathlib.Core.List.{List, [], ◌∷◌, ◌++◌}
use Prim.Native.Nat.{ℕ, zero, suc, ◌+◌, ◌*◌, ◌/◌, ◌%◌, ◌^◌, ◌<◌, ◌≤◌}
use native.Mathlib.Nat.{mul-pos, mul-one, add-zero, zero-mul, zero-add, div-one, div-eq_of_lt, div-div-eq-div-mul, div-add-mod', mod-eq_of_lt, mod-lt, mul_assoc, mul_comm, div-lt_iff_lt-mul, pow-suc}
use native.Mathlib.Omega.{arith}
use borrow.Author.Tests.{leb-true, ne_eqb}
use lib.Arith.{mod-mul, digits_div, digits_mod}
use lib.Dec.{eqb, leb, lit<}
use lib.Pow.{pow-add, pow_mono}
use Rattle.frame.specs.Pick.{pick}
use Rattle.frame.specs.Line.{mark}
use Rattle.frame.specs.Charts.{Chart, size_of, is_odd, turned, code_of}
use Rattle.frame.specs.Level.{width_of, values_of, write_row}
use Rattle.frame.specs.Inside.Packed.{chart_of, digit_row, write_up}
use Rattle.frame.specs.Inside.Constants.{placed_at}
use Rattle.frame.proofs.Digits.{turned_lt}
use Rattle.frame.proofs.Tables.{size_low, size-high, size-even, code-small}

-- a row's digit read in four bits
abbrev pub in_four : ℕ → Chart
in_four k = record { width = 4; codes = (chart_of k).codes }

-- a row of one digit more is the row with that digit at its end
row_snoc : (row k : ℕ) → digit_row row (suc k) ≡ digit_row row k ++ (in_four (row / 16 ^ k % 16) ∷ [])
unfolding digit_row
row_snoc row zero = ap (λ (n : ℕ). in_four (n % 16) ∷ []) (omega arith)
row_snoc row (suc k) = ap (λ (cs : List Chart). in_four (row % 16) ∷ cs) (row_snoc (row / 16) k ∙ ap (λ (n : ℕ). digit_row (row / 16) k ++ (in_four (n % 16) ∷ [])) (div-div-eq-div-mul row 16 (16 ^ k) ∙ ap (λ (n : ℕ). row / n) (mul_comm 16 (16 ^ k) ∙ sym (pow-suc 16 k))))

module _ (c : Chart) where
  values-snoc : (cs : List Chart) → values_of (cs ++ (c ∷ [])) ≡ values_of cs * size_of c
  unfolding values_of
  values-snoc [] = omega arith
  values-snoc (d ∷ cs) = rw (values-snoc cs) (sym (mul_assoc (size_of d) (values_of cs) (size_of c)))

  width-snoc : (cs : List Chart) → width_of (cs ++ (c ∷ [])) ≡ width_of cs + c.width
  unfolding width_of
  width-snoc [] = omega arith
  width-snoc (d ∷ cs) = rw (width-snoc cs) (omega arith)

-- an even number of values above does not change the oddness
odd_even : (a b x : ℕ) → b % 2 ≡ 0 → is_odd (a * b + x) ≡ is_odd x
odd_even a b x even = ap (λ (n : ℕ). eqb n 1) go
  where
    half : b ≡ 2 * (b / 2)
    half = omega arith

    part : a * b ≡ 2 * (a * (b / 2))
    part = ap (λ (n : ℕ). a * n) half ∙ omega arith

    go : (a * b + x) % 2 ≡ x % 2
    go = omega (arith, part)

even-mul : (a b : ℕ) → a % 2 ≡ 0 → a * b % 2 ≡ 0
even-mul a b even = omega (arith, part)
  where
    half : a ≡ 2 * (a / 2)
    half = omega arith

    part : a * b ≡ 2 * (a / 2 * b)
    part = ap (λ (n : ℕ). n * b) half ∙ omega arith

regroup : (a p q r k : ℕ) → a * (p * q) + (r * q + k) ≡ (a * p + r) * q + k
regroup a p q r k = omega arith

-- a number by the values w of a row and then the s values of one digit more
module _ (v w s : ℕ) (ws : 0 < w) (ss : 0 < s) where
  rest-split : v % (w * s) ≡ v / s % w * s + v % s
  rest-split = mod-mul v ws ss

  above : v / (w * s) ≡ v / s / w
  above = ap (λ (n : ℕ). v / n) (mul_comm w s) ∙ sym (div-div-eq-div-mul v s w)

  below-div : v % (w * s) / s ≡ v / s % w
  below-div = ap (λ (n : ℕ). n / s) rest-split ∙ digits_div (v / s % w) (mod-lt v ss)

  below-mod : v % (w * s) % s ≡ v % s
  below-mod = ap (λ (n : ℕ). n % s) rest-split ∙ digits_mod (v / s % w) (mod-lt v ss)

values-pos : (row k : ℕ) → 0 < values_of (digit_row row k)
unfolding values_of digit_row
values-pos row zero = lit< tt
values-pos row (suc k) = mul-pos (omega (arith, size_low (row % 16))) (values-pos (row / 16) k)

-- the last digit of a row, below the digits of the row and any number u above them all
module _ (c : Chart) (some : 0 < size_of c) where
  last-digit : (row k u v : ℕ) → v < values_of (digit_row row k) * size_of c
      → write_row (digit_row row k ++ (c ∷ [])) (is_odd u) v
      ≡ write_row (digit_row row k) (is_odd u) (v / size_of c) * 2 ^ c.width + code_of (is_odd (u * values_of (digit_row row k) + v / size_of c)) c (v % size_of c)
  unfolding write_row digit_row values_of width_of
  last-digit row zero u v h =
      let few : v < size_of c = omega arith in
      let q : v / size_of c ≡ 0 = div-eq_of_lt few in
      simp (mod-eq_of_lt few, q, div-one v, mul-one, add-zero, zero-mul, zero-add)
  last-digit row (suc k) u v h =
      let cs = digit_row (row / 16) k in
      let w = values_of cs in
      let s = size_of c in
      let ws = values-pos (row / 16) k in
      let rest : v % (w * s) < w * s = mod-lt v (mul-pos ws some) in
      let odd = odd_even u (size_of (in_four (row % 16)) * w) (v / s) (even-mul (size_of (in_four (row % 16))) w (size-even (row % 16))) in
      rw (values-snoc c cs, width-snoc c cs, pow-add 2 (width_of cs) c.width, last-digit (row / 16) k (v / (w * s)) (v % (w * s)) rest, above v w s ws some, below-div v w s ws some, below-mod v w s ws some, div-add-mod' (v / s) w, odd)
      (regroup (code_of (is_odd u) (in_four (row % 16)) (v / s / w)) (2 ^ width_of cs) (2 ^ c.width) (write_row cs (is_odd (v / s / w)) (v / s % w)) (code_of (is_odd (v / s)) c (v % s)))

  -- the same with a starting state above the first digit
  pub last-from : (row k : ℕ) (start : Bool) (v : ℕ) → v < values_of (digit_row row k) * size_of c
      → write_row (digit_row row k ++ (c ∷ [])) start v
      ≡ write_row (digit_row row k) start (v / size_of c) * 2 ^ c.width + code_of (is_odd (mark start * values_of (digit_row row k) + v / size_of c)) c (v % size_of c)
  last-from row k true v h = last-digit row k 1 v h
  last-from row k false v h = last-digit row k 0 v h

not-zero : (k : ℕ) → suc k ≡ 0 → ⊥
not-zero k e = omega arith

-- what the digit above is odd by: the starting state above the first digit, else all that stands above
odd-above : (row k : ℕ) (start : Bool) (q : ℕ) → q < values_of (digit_row row k) → is_odd (mark start * values_of (digit_row row k) + q) ≡ pick (eqb k 0) start (is_odd q)
unfolding values_of digit_row
odd-above row zero true q h = let none : q ≡ 0 = omega arith in rw none
odd-above row zero false q h = let none : q ≡ 0 = omega arith in rw none
odd-above row (suc k) start q h =
    rw (ne_eqb (suc k) 0 (λ e. not-zero k e))
    (odd_even (mark start) (size_of (in_four (row % 16)) * values_of (digit_row (row / 16) k)) q (even-mul (size_of (in_four (row % 16))) (values_of (digit_row (row / 16) k)) (size-even (row % 16))))

-- from the ones digit up or from the top, the same codes
pub upward : (row left : ℕ) (start : Bool) (v : ℕ) → v < values_of (digit_row row left) → write_up row left start v ≡ write_row (digit_row row left) start v
unfolding write_up write_row digit_row
upward row zero start v h = refl
upward row (suc k) start v h =
    let c = in_four (row / 16 ^ k % 16) in
    let s = size_of c in
    let some : 0 < s = omega (arith, size_low (row / 16 ^ k % 16)) in
    let inside : v < values_of (digit_row row k) * s = rw (row_snoc row k, values-snoc c (digit_row row k)) at h in
    let fewer : v / s < values_of (digit_row row k) = (div-lt_iff_lt-mul some).1 inside in
    let low = code_of (pick (eqb k 0) start (is_odd (v / s))) c (v % s) in
    ap (λ (n : ℕ). low + 16 * n) (upward row k start (v / s) fewer)
    ∙ swap low (write_row (digit_row row k) start (v / s))
    ∙ sym
    (ap (λ (cs : List Chart). write_row cs start v) (row_snoc row k) ∙ last-from c some row k start v inside
    ∙ ap (λ (odd : Bool). write_row (digit_row row k) start (v / s) * 16 + code_of odd c (v % s)) (odd-above row k start (v / s) fewer))
  where
    swap : (a b : ℕ) → a + 16 * b ≡ b * 16 + a
    swap a b = omega arith

-- every code takes four bits
pub code_lt : (k : ℕ) (odd : Bool) (d : ℕ) → d < size_of (chart_of k) → code_of odd (chart_of k) d < 16
code_lt k odd d h =
    let at = turned_lt odd (size_of (chart_of k)) d h in
    code-small k (turned odd (size_of (chart_of k)) d) (omega (arith, size-high k))

pub up_lt : (row left : ℕ) (start : Bool) (v : ℕ) → write_up row left start v < 16 ^ left
unfolding write_up
up_lt row zero start v = lit< tt
up_lt row (suc k) start v =
    let c = row / 16 ^ k % 16 in
    let s = size_of (chart_of c) in
    let low = code_lt c (pick (eqb k 0) start (is_odd (v / s))) (v % s) (mod-lt v (omega (arith, size_low c))) in
    let rest = up_lt row k start (v / s) in
    rw (pow-suc 16 k) (omega (arith, low, rest))

pub sixteen : (k : ℕ) → 2 ^ (4 * k) ≡ 16 ^ k
sixteen zero = refl
sixteen (suc k) =
    ap (λ (n : ℕ). 2 ^ n) (four-more k) ∙ pow-add 2 (4 * k) 4 ∙ ap (λ (n : ℕ). n * 16) (sixteen k) ∙ sym (pow-suc 16 k)
  where
    four-more : (k : ℕ) → 4 * suc k ≡ 4 * k + 4
    four-more k = omega arith

pub sixteen-le : (k : ℕ) → k ≤ 8 → 16 ^ k ≤ 2 ^ 32
sixteen-le k h = rw (← sixteen k) (pow_mono {i = 4 * k} {j = 32} (omega arith))

-- so a level within its mode is placed the same from either end
pub placed-up : (v row left first fill largest : ℕ) (start : Bool) → largest < values_of (digit_row row left)
    → placed_at v (write_up row left start v) first fill largest ≡ placed_at v (write_row (digit_row row left) start v) first fill largest
placed-up v row left first fill largest start h = by (leb v largest) refl
  where
    by : (b : Bool) → leb v largest ≡ b → placed_at v (write_up row left start v) first fill largest ≡ placed_at v (write_row (digit_row row left) start v) first fill largest
    by true e =
        let within : v ≤ largest = leb-true v largest e in
        ap (λ (n : ℕ). placed_at v n first fill largest) (upward row left start v (omega arith))
    by false e = rw e
