-- Pairs read by the table are digits read one by one. A pair's entry is taken apart into its two digits, by whether each code is in the chart;
-- reading k pairs is then reading 2 k decimal digits, by induction on k. A mode is joined to that by two laws: a chart that is a full front of
-- the decimal one reads straight as it does, and a digit 0 above a row adds nothing but a place. Assumes nothing.
use mathlib.Core.Path.{◌≡◌, refl, sym, ap, subst, ◌∙◌}
use mathlib.Core.Bool.{Bool, true, false, ◌&&◌}
use mathlib.Core.List.{List, [], ◌∷◌}
use mathlib.Core.Logic.{◌⊎◌, ⊎_elim}
use Prim.Native.Nat.{ℕ, zero, suc, ◌+◌, ◌-◌, ◌*◌, ◌/◌, ◌%◌, ◌^◌, ◌<◌, ◌≤◌}
use native.Mathlib.Nat.{add_comm, mod-lt, mod-eq_of_lt, zero-mul, div-lt_iff_lt-mul, div-eq_of_lt}
use native.Mathlib.Omega.{arith}
use borrow.Author.Tests.{ltb-true, lt-ltb, ne_eqb}
use lib.Dec.{T, eqb, eqb→eq, ltb, ltb→lt, lit<}
use lib.ListN.{length}
use lib.Pow.{pow_pos, pow-add}
use Rattle.frame.specs.Pick.{pick}
use Rattle.frame.specs.Line.{field}
use Rattle.frame.specs.Charts.{Chart, size_of, is_odd, turned, place_in, decimal}
use Rattle.frame.specs.Level.{Level, known, lost, Mode, width_of, read_row, last_bit_of, level_of}
use Rattle.frame.specs.Pairs.{no_pair, pair_number, table_entry, index_of, decimals, read_pairs, uncounted, level_by_pairs}
use Rattle.frame.proofs.Both.{and_left, and_right}
use Rattle.frame.proofs.Tables.{all_below, at-below}
use Rattle.frame.proofs.Digits.{turned_lt}

decimal-width : decimal.width ≡ 4
unfolding decimal
decimal-width = refl

decimal-size : size_of decimal ≡ 10
unfolding decimal
decimal-size = refl

zero-place : place_in 0 decimal.codes ≡ 0
unfolding decimal place_in
zero-place = refl

-- the entry of an index made of a pair
pub entry-is : (odd : Bool) (a b : ℕ) → a < 16 → b < 16 → table_entry (index_of odd a b) ≡ pair_number odd a b
entry-is true a b ha hb =
    let high : (1 * 256 + a * 16 + b) / 256 ≡ 1 = omega arith in
    let mid : (1 * 256 + a * 16 + b) / 16 % 16 ≡ a = omega arith in
    let low : (1 * 256 + a * 16 + b) % 16 ≡ b = omega arith in
    rw (high, mid, low)
entry-is false a b ha hb =
    let high : (0 * 256 + a * 16 + b) / 256 ≡ 0 = omega arith in
    let mid : (0 * 256 + a * 16 + b) / 16 % 16 ≡ a = omega arith in
    let low : (0 * 256 + a * 16 + b) % 16 ≡ b = omega arith in
    rw (high, mid, low)

-- an entry by whether its codes are in the chart
module _ (odd : Bool) (a b : ℕ) where
  abbrev x : ℕ
  x = place_in a decimal.codes

  abbrev y : ℕ
  y = place_in b decimal.codes

  abbrev d : ℕ
  d = turned odd (size_of decimal) x

  abbrev e : ℕ
  e = turned (is_odd d) (size_of decimal) y

  both-in : ltb x (size_of decimal) ≡ true → ltb y (size_of decimal) ≡ true → pair_number odd a b ≡ 10 * d + e
  unfolding pair_number
  both-in p q = rw (p, q)

  first_out : ltb x (size_of decimal) ≡ false → pair_number odd a b ≡ no_pair
  unfolding pair_number
  first_out p = rw p

  second-out : ltb x (size_of decimal) ≡ true → ltb y (size_of decimal) ≡ false → pair_number odd a b ≡ no_pair
  unfolding pair_number
  second-out p q = rw (p, q)

  d-lt : ltb x (size_of decimal) ≡ true → d < 10
  d-lt p = rw (← decimal-size) (turned_lt odd (size_of decimal) x (ltb-true _ _ p))

  e-lt : ltb y (size_of decimal) ≡ true → e < 10
  e-lt q = rw (← decimal-size) (turned_lt (is_odd d) (size_of decimal) y (ltb-true _ _ q))

  -- a pair's number is no mark, and is odd exactly if its second digit is
  pub unmarked : ltb x (size_of decimal) ≡ true → ltb y (size_of decimal) ≡ true → eqb (pair_number odd a b) no_pair ≡ false
  unmarked p q = rw (both-in p q) (ne_eqb (10 * d + e) 255 (small d e (d-lt p) (e-lt q)))
    where
      small : (d e : ℕ) → d < 10 → e < 10 → 10 * d + e ≡ 255 → ⊥
      small d e h k z = omega arith

  odd_is : ltb x (size_of decimal) ≡ true → ltb y (size_of decimal) ≡ true → is_odd (pair_number odd a b) ≡ is_odd e
  odd_is p q = rw (both-in p q) (ap (λ (n : ℕ). eqb n 1) (same d e))
    where
      same : (d e : ℕ) → (10 * d + e) % 2 ≡ e % 2
      same d e = omega arith

  -- an entry that is no mark is a number from 0 to 99
  pub pair_lt : (pair_number odd a b ≡ 255 → ⊥) → pair_number odd a b < 100
  pair_lt none = go (ltb x (size_of decimal)) refl (ltb y (size_of decimal)) refl
    where
      small : (d e : ℕ) → d < 10 → e < 10 → 10 * d + e < 100
      small d e h k = omega arith

      go : (s : Bool) → ltb x (size_of decimal) ≡ s → (t : Bool) → ltb y (size_of decimal) ≡ t → pair_number odd a b < 100
      go true p true q = rw (both-in p q) (small d e (d-lt p) (e-lt q))
      go true p false q = absurd (none (second-out p q))
      go false p t q = absurd (none (first_out p))

-- with 0000 for the second code a pair is marked exactly if its first code is in no chart
asked_in : (odd : Bool) (a : ℕ) → ltb (place_in a decimal.codes) (size_of decimal) ≡ true → eqb (pair_number odd a 0) no_pair ≡ false
asked_in odd a p = unmarked odd a 0 p (rw (zero-place, decimal-size))

asked-out : (odd : Bool) (a : ℕ) → ltb (place_in a decimal.codes) (size_of decimal) ≡ false → eqb (pair_number odd a 0) no_pair ≡ true
asked-out odd a p = rw (first_out odd a 0 p)

-- two decimal digits above a row, by their pair
module _ (cs : List Chart) (left : ℕ) (w : width_of cs ≡ 8 * left) (bits : ℕ) (odd : Bool) (sofar place : ℕ) where
  abbrev first : ℕ
  first = bits / 2 ^ (8 * left + 4) % 16

  abbrev second : ℕ
  second = bits / 2 ^ (8 * left) % 16

  one_by_one : read_row (decimal ∷ decimal ∷ cs) bits odd sofar place
      ≡ pick (ltb (x odd first second) (size_of decimal))
      (pick (ltb (y odd first second) (size_of decimal)) (read_row cs bits (is_odd (e odd first second)) ((sofar * size_of decimal + d odd first second) * size_of decimal + e odd first second) (suc (suc place))) (lost (suc place)))
      (lost place)
  unfolding read_row width_of
  one_by_one = rw (w, decimal-width, add_comm 4 (8 * left))

  sum : (a d e : ℕ) → a * 100 + (10 * d + e) ≡ (a * 10 + d) * 10 + e
  sum a d e = omega arith

  two_digits : read_row (decimal ∷ decimal ∷ cs) bits odd sofar place
      ≡ pick (eqb (pair_number odd first second) no_pair) (lost (pick (eqb (pair_number odd first 0) no_pair) place (suc place))) (read_row cs bits (is_odd (pair_number odd first second)) (sofar * 100 + pair_number odd first second) (suc (suc place)))
  two_digits = one_by_one ∙ go (ltb (x odd first second) (size_of decimal)) refl (ltb (y odd first second) (size_of decimal)) refl
    where
      go : (s : Bool) → ltb (x odd first second) (size_of decimal) ≡ s → (t : Bool) → ltb (y odd first second) (size_of decimal) ≡ t
          → pick s (pick t (read_row cs bits (is_odd (e odd first second)) ((sofar * size_of decimal + d odd first second) * size_of decimal + e odd first second) (suc (suc place))) (lost (suc place))) (lost place)
          ≡ pick (eqb (pair_number odd first second) no_pair) (lost (pick (eqb (pair_number odd first 0) no_pair) place (suc place))) (read_row cs bits (is_odd (pair_number odd first second)) (sofar * 100 + pair_number odd first second) (suc (suc place)))
      go true p true q =
          rw (unmarked odd first second p q, odd_is odd first second p q, both-in odd first second p q, sum sofar (d odd first second) (e odd first second), decimal-size)
      go true p false q = rw (second-out odd first second p q, asked_in odd first p)
      go false p t q = rw (first_out odd first second p, asked-out odd first p)

decimals-width : (k : ℕ) → width_of (decimals k) ≡ 4 * k
unfolding width_of decimals
decimals-width zero = refl
decimals-width (suc k) = rw (decimals-width k, decimal-width) (omega arith)

pairs-width : (k : ℕ) → width_of (decimals (2 * k)) ≡ 8 * k
pairs-width k = decimals-width (2 * k) ∙ omega arith

two-more : (k : ℕ) → 2 * suc k ≡ suc (suc (2 * k))
two-more k = omega arith

more : (k : ℕ) → (decimal ∷ decimal ∷ decimals (2 * k)) ≡ decimals (2 * suc k)
unfolding decimals
more k = rw (two-more k)

no_digit : (bits : ℕ) (odd : Bool) (sofar place : ℕ) → known sofar ≡ read_row (decimals (2 * 0)) bits odd sofar place
unfolding read_row decimals
no_digit bits odd sofar place = refl

-- reading k pairs is reading 2 k digits
pub pairs-are-digits : (k bits : ℕ) (odd : Bool) (sofar place : ℕ) → read_pairs k bits odd sofar place ≡ read_row (decimals (2 * k)) bits odd sofar place
unfolding read_pairs
pairs-are-digits zero bits odd sofar place = no_digit bits odd sofar place
pairs-are-digits (suc k) bits odd sofar place =
    let first = bits / 2 ^ (8 * k + 4) % 16 in
    let second = bits / 2 ^ (8 * k) % 16 in
    rw (entry-is odd first second (mod-lt (bits / 2 ^ (8 * k + 4)) (lit< tt)) (mod-lt (bits / 2 ^ (8 * k)) (lit< tt)), entry-is odd first 0 (mod-lt (bits / 2 ^ (8 * k + 4)) (lit< tt)) (lit< tt), pairs-are-digits k bits (is_odd (pair_number odd first second)) (sofar * 100 + pair_number odd first second) (suc (suc place)))
    (sym (two_digits (decimals (2 * k)) k (pairs-width k) bits odd sofar place) ∙ ap (λ (cs : List Chart). read_row cs bits odd sofar place) (more k))

-- a chart that is a full front of the decimal one: each code of its width stands in both, at the same place
unfoldable pub front_right : Chart → ℕ → Bool
front_right c q =
    eqb (place_in q c.codes) (place_in q decimal.codes) && (ltb (place_in q c.codes) (size_of c) && ltb (place_in q decimal.codes) (size_of decimal))

pub record Front (c : Chart) : Type 0 where
  pub narrow : 2 ^ c.width ≤ 16
  pub right : T (all_below (front_right c) (2 ^ c.width))

module _ (c : Chart) (f : Front c) (q : ℕ) (h : q < 2 ^ c.width) where
  holds : T (front_right c q)
  holds = at-below (front_right c) (2 ^ c.width) f.right q h

  same_place : place_in q c.codes ≡ place_in q decimal.codes
  unfolding front_right
  same_place =
      eqb→eq (place_in q c.codes) (place_in q decimal.codes)
      (and_left (eqb (place_in q c.codes) (place_in q decimal.codes)) (ltb (place_in q c.codes) (size_of c) && ltb (place_in q decimal.codes) (size_of decimal)) holds)

  inside : T (ltb (place_in q c.codes) (size_of c) && ltb (place_in q decimal.codes) (size_of decimal))
  unfolding front_right
  inside = and_right (eqb (place_in q c.codes) (place_in q decimal.codes)) (ltb (place_in q c.codes) (size_of c) && ltb (place_in q decimal.codes) (size_of decimal)) holds

  in-front : ltb (place_in q c.codes) (size_of c) ≡ true
  in-front = lt-ltb _ _ (ltb→lt (place_in q c.codes) (size_of c) (and_left (ltb (place_in q c.codes) (size_of c)) (ltb (place_in q decimal.codes) (size_of decimal)) inside))

  in-decimal : ltb (place_in q decimal.codes) (size_of decimal) ≡ true
  in-decimal = lt-ltb _ _ (ltb→lt (place_in q decimal.codes) (size_of decimal) (and_right (ltb (place_in q c.codes) (size_of c)) (ltb (place_in q decimal.codes) (size_of decimal)) inside))

-- its digit, read straight at the top, is the decimal one
front_reads : (c : Chart) → Front c → (cs : List Chart) (bits place : ℕ) → bits / 2 ^ width_of cs < 2 ^ c.width
    → read_row (c ∷ cs) bits false 0 place ≡ read_row (decimal ∷ cs) bits false 0 place
unfolding read_row turned
front_reads c f cs bits place h =
    let q = bits / 2 ^ width_of cs in
    let few : q < 16 = omega (arith, f.narrow) in
    rw (decimal-width, mod-eq_of_lt h, mod-eq_of_lt few, in-front c f q h, in-decimal c f q h, same_place c f q h, zero-mul (size_of c), zero-mul (size_of decimal))

-- a digit 0 above a row adds nothing but a place
zero-above : (cs : List Chart) (bits place : ℕ) → bits / 2 ^ width_of cs ≡ 0 → read_row (decimal ∷ cs) bits false 0 place ≡ read_row cs bits false 0 (suc place)
unfolding read_row turned
zero-above cs bits place h = rw (h, decimal-width, zero-place, decimal-size)

uncounted-row : (cs : List Chart) (bits : ℕ) (odd : Bool) (sofar place : ℕ) → uncounted 1 (read_row cs bits odd sofar (suc place)) ≡ read_row cs bits odd sofar place
unfolding read_row
uncounted-row [] bits odd sofar place = refl
uncounted-row (c ∷ cs) bits odd sofar place =
    let at = place_in (bits / 2 ^ width_of cs % 2 ^ c.width) c.codes in
    let d = turned odd (size_of c) at in
    go (ltb at (size_of c)) (read_row cs bits (is_odd d) (sofar * size_of c + d) (suc (suc place))) (read_row cs bits (is_odd d) (sofar * size_of c + d) (suc place))
    (uncounted-row cs bits (is_odd d) (sofar * size_of c + d) (suc place))
  where
    less : (k : ℕ) → suc k - 1 ≡ k
    less k = omega arith

    go : (t : Bool) (a b : Level) → uncounted 1 a ≡ b → uncounted 1 (pick t a (lost (suc place))) ≡ pick t b (lost place)
    go true a b e = e
    go false a b e = ap lost (less place)

pub all-counted : (l : Level) → uncounted 0 l ≡ l
all-counted (known v) = refl
all-counted (lost k) = ap lost (omega arith)

-- a mode that pairs can read: a full front of the decimal chart, and decimal digits below it
pub record Paired (m : Mode) : Type 0 where
  pub top : Chart
  pub below : ℕ
  pub row : m.row ≡ top ∷ decimals below
  pub front : Front top
  pub wide : last_bit_of m + 1 - m.first ≡ top.width + 4 * below
  pub pairs : ℕ
  pub count : (length m.row + 1) / 2 ≡ pairs
  pub zeros : ℕ
  pub odd_one : length m.row % 2 ≡ zeros
  pub all : ((zeros ≡ 0) × (2 * pairs ≡ suc below)) ⊎ ((zeros ≡ 1) × (2 * pairs ≡ suc (suc below)))

-- the bits of a row, above its last digits
above-rest : (x a j : ℕ) → x < 2 ^ (a + 4 * j) → x / 2 ^ (4 * j) < 2 ^ a
above-rest x a j h = (div-lt_iff_lt-mul (pow_pos (4 * j))).1 (rw (pow-add 2 a (4 * j)) at h)

module _ (m : Mode) (p : Paired m) (n : ℕ) where
  abbrev bits : ℕ
  bits = field n m.first (last_bit_of m)

  few : bits / 2 ^ width_of (decimals p.below) < 2 ^ p.top.width
  few =
      let fits : field n m.first (last_bit_of m) < 2 ^ (p.top.width + 4 * p.below) =
      subst (λ (w : ℕ). field n m.first (last_bit_of m) < 2 ^ w) p.wide (mod-lt (n / 2 ^ (64 - last_bit_of m)) (pow_pos (last_bit_of m + 1 - m.first))) in
      rw (decimals-width p.below) (above-rest (field n m.first (last_bit_of m)) p.top.width p.below fits)

  -- the plain reader reads decimal digits alone
  plain : level_of m n ≡ read_row (decimals (suc p.below)) bits false 0 0
  unfolding decimals
  plain = ap (λ (cs : List Chart). read_row cs bits false 0 0) p.row ∙ front_reads p.top p.front (decimals p.below) bits 0 few

  none_above : bits / 2 ^ width_of (decimals (suc p.below)) ≡ 0
  none_above = let f = few in let w = decimals-width (suc p.below) in rw (decimals-width (suc p.below)) (div-eq_of_lt (small p.below bits p.top.width (rw (decimals-width p.below) at few) p.front.narrow))
    where
      small : (j x a : ℕ) → x / 2 ^ (4 * j) < 2 ^ a → 2 ^ a ≤ 16 → x < 2 ^ (4 * suc j)
      small j x a h k = rw (four-more j, pow-add 2 4 (4 * j)) ((div-lt_iff_lt-mul (pow_pos (4 * j))).0 (omega arith))
        where
          four-more : (j : ℕ) → 4 * suc j ≡ 4 + 4 * j
          four-more j = omega arith

  -- with a digit 0 above, they are still the same but for a place
  one-above : uncounted 1 (read_row (decimals (suc (suc p.below))) bits false 0 0) ≡ level_of m n
  unfolding decimals
  one-above =
      ap (uncounted 1) (zero-above (decimals (suc p.below)) bits 0 none_above) ∙ uncounted-row (decimals (suc p.below)) bits false 0 0 ∙ sym plain

  pub same-level : level_by_pairs m n ≡ level_of m n
  unfolding decimals
  same-level =
      rw (p.count, p.odd_one, pairs-are-digits p.pairs (field n m.first (last_bit_of m)) false 0 0)
      (⊎_elim even odd p.all)
    where
      even : (p.zeros ≡ 0) × (2 * p.pairs ≡ suc p.below) → uncounted p.zeros (read_row (decimals (2 * p.pairs)) (field n m.first (last_bit_of m)) false 0 0) ≡ level_of m n
      even z = rw (z.0, z.1) (all-counted (read_row (decimals (suc p.below)) (field n m.first (last_bit_of m)) false 0 0) ∙ sym plain)

      odd : (p.zeros ≡ 1) × (2 * p.pairs ≡ suc (suc p.below)) → uncounted p.zeros (read_row (decimals (2 * p.pairs)) (field n m.first (last_bit_of m)) false 0 0) ≡ level_of m n
      odd z = rw (z.0, z.1) one-above
