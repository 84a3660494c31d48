-- The reader of pairs, one pair at a time: what the definition gives for the top pair, marked or not, and how large the level so far can
-- grow. Assumes nothing.
use mathlib.Core.Path.{◌≡◌, ap, ◌∙◌}
use mathlib.Core.Bool.{Bool}
use Prim.Native.Nat.{ℕ, zero, suc, ◌+◌, ◌-◌, ◌*◌, ◌/◌, ◌%◌, ◌^◌, ◌<◌, ◌≤◌}
use native.Mathlib.Decide.{ℕ_discrete}
use native.Mathlib.Nat.{pow-suc, mul-le-mul_right, le_trans, le_of_eq, mul_assoc, mul_comm, le-mul_of_pos_right, one-le-pow, mod-lt}
use native.Mathlib.Omega.{arith}
use borrow.Author.Tests.{eq-eqb, ne_eqb}
use lib.Dec.{eqb, lit<, lit≤}
use Rattle.frame.specs.Pick.{pick}
use Rattle.frame.specs.Charts.{is_odd}
use Rattle.frame.specs.Level.{lost}
use Rattle.frame.specs.Pairs.{no_pair, table_entry, index_of, read_pairs}
use Rattle.frame.specs.Inside.Packed.{Below}
use Rattle.frame.proofs.Digits.{down, below_more}
use Rattle.frame.proofs.PairsAreDigits.{entry-is, pair_lt}

-- an entry that is no mark is the number of a pair
pub entry_lt : (odd : Bool) (a b : ℕ) → a < 16 → b < 16 → (table_entry (index_of odd a b) ≡ 255 → ⊥) → table_entry (index_of odd a b) < 100
entry_lt odd a b ha hb none = rw (entry-is odd a b ha hb) (pair_lt odd a b (λ e. none (entry-is odd a b ha hb ∙ e)))

-- the entry of the top pair, and of its first code with 0000
abbrev pub top_pair : ℕ → ℕ → Bool → ℕ
top_pair k bits odd = table_entry (index_of odd (bits / 2 ^ (8 * k + 4) % 16) (bits / 2 ^ (8 * k) % 16))

abbrev pub lost_at : ℕ → ℕ → Bool → ℕ → ℕ
lost_at k bits odd place = pick (eqb (table_entry (index_of odd (bits / 2 ^ (8 * k + 4) % 16) 0)) no_pair) place (suc place)

pub top_lt : (k bits : ℕ) (odd : Bool) → (top_pair k bits odd ≡ 255 → ⊥) → top_pair k bits odd < 100
top_lt k bits odd = entry_lt odd (bits / 2 ^ (8 * k + 4) % 16) (bits / 2 ^ (8 * k) % 16) (mod-lt (bits / 2 ^ (8 * k + 4)) (lit< tt)) (mod-lt (bits / 2 ^ (8 * k)) (lit< tt))

module _ (bits : ℕ) (odd : Bool) (sofar place : ℕ) where
  step-marked : (k : ℕ) → top_pair k bits odd ≡ 255 → read_pairs (suc k) bits odd sofar place ≡ lost (lost_at k bits odd place)
  unfolding read_pairs
  step-marked k e = rw (eq-eqb (top_pair k bits odd) 255 e)

  step-number : (k : ℕ) → (top_pair k bits odd ≡ 255 → ⊥)
      → read_pairs (suc k) bits odd sofar place ≡ read_pairs k bits (is_odd (top_pair k bits odd)) (sofar * 100 + top_pair k bits odd) (suc (suc place))
  unfolding read_pairs
  step-number k e = rw (ne_eqb (top_pair k bits odd) 255 e)

  -- the same by the number of pairs left
  pub left-marked : (left : ℕ) → 0 < left → top_pair (left - 1) bits odd ≡ 255 → read_pairs left bits odd sofar place ≡ lost (lost_at (left - 1) bits odd place)
  left-marked = down (λ (n k : ℕ). top_pair k bits odd ≡ 255 → read_pairs n bits odd sofar place ≡ lost (lost_at k bits odd place)) step-marked

  pub left-number : (left : ℕ) → 0 < left → (top_pair (left - 1) bits odd ≡ 255 → ⊥)
      → read_pairs left bits odd sofar place ≡ read_pairs (left - 1) bits (is_odd (top_pair (left - 1) bits odd)) (sofar * 100 + top_pair (left - 1) bits odd) (suc (suc place))
  left-number =
      down (λ (n k : ℕ). (top_pair k bits odd ≡ 255 → ⊥) → read_pairs n bits odd sofar place ≡ read_pairs k bits (is_odd (top_pair k bits odd)) (sofar * 100 + top_pair k bits odd) (suc (suc place)))
      step-number

-- a level with one pair more takes no more room than was left for it
pair-room-step : (sofar p : ℕ) → p < 100 → (k : ℕ) → (sofar * 100 + p + 1) * 100 ^ k ≤ (sofar + 1) * 100 ^ suc k
pair-room-step sofar p h k =
    le_trans (mul-le-mul_right (100 ^ k) grown) (le_of_eq (regroup (sofar + 1) (100 ^ k) ∙ ap (λ (x : ℕ). (sofar + 1) * x) (more k)))
  where
    grown : sofar * 100 + p + 1 ≤ (sofar + 1) * 100
    grown = omega arith

    regroup : (a b : ℕ) → a * 100 * b ≡ a * (b * 100)
    regroup a b = mul_assoc a 100 b ∙ ap (λ (x : ℕ). a * x) (mul_comm 100 b)

    more : (k : ℕ) → 100 ^ k * 100 ≡ 100 ^ suc k
    more k = rw (pow-suc 100 k)

pub pair-room : (most sofar p : ℕ) → p < 100 → (left : ℕ) → 0 < left → (sofar + 1) * 100 ^ left ≤ most → (sofar * 100 + p + 1) * 100 ^ (left - 1) ≤ most
pair-room most sofar p h =
    down (λ (m k : ℕ). (sofar + 1) * 100 ^ m ≤ most → (sofar * 100 + p + 1) * 100 ^ k ≤ most) (λ k fits. le_trans (pair-room-step sofar p h k) fits)

pub pair-room-now : (sofar left : ℕ) → (sofar + 1) * 100 ^ left ≤ 2 ^ 32 → sofar < 2 ^ 32
pair-room-now sofar left fits = omega (arith, le-mul_of_pos_right (sofar + 1) (one-le-pow left 100 (lit≤ tt)))

no-pair : (bits : ℕ) (odd : Bool) (sofar place : ℕ) → Below ((sofar + 1) * 100 ^ 0) (read_pairs 0 bits odd sofar place)
unfolding read_pairs
no-pair bits odd sofar place = omega arith

-- a level of so many pairs is below what they leave room for
pub pairs_below : (left bits : ℕ) (odd : Bool) (sofar place : ℕ) → Below ((sofar + 1) * 100 ^ left) (read_pairs left bits odd sofar place)
pairs_below zero bits odd sofar place = no-pair bits odd sofar place
pairs_below (suc k) bits odd sofar place =
    let p = top_pair k bits odd in
    elim (ℕ_discrete p 255) [
      | yes e ↦ rw (step-marked bits odd sofar place k e) tt
      | no e ↦
          rw (step-number bits odd sofar place k e)
          (below_more ((sofar * 100 + p + 1) * 100 ^ k) ((sofar + 1) * 100 ^ suc k) (pair-room-step sofar p (top_lt k bits odd e) k)
          (read_pairs k bits (is_odd p) (sofar * 100 + p) (suc (suc place))) (pairs_below k bits (is_odd p) (sofar * 100 + p) (suc (suc place))))
    ]

-- at most four pairs leave room in 32 bits
pub hundred-le : (k : ℕ) → k ≤ 4 → 100 ^ k ≤ 2 ^ 32
hundred-le zero h = lit≤ tt
hundred-le (suc zero) h = lit≤ tt
hundred-le (suc (suc zero)) h = lit≤ tt
hundred-le (suc (suc (suc zero))) h = lit≤ tt
hundred-le (suc (suc (suc (suc zero)))) h = lit≤ tt
hundred-le (suc (suc (suc (suc (suc k))))) h = absurd (omega arith)
