-- The tables of the charts: what holds of each of the six charts holds of the chart of any number, and the rule of a packed table is one
-- test that is computed over all its entries. Assumes nothing.
use mathlib.Core.Path.{◌≡◌, sym, subst}
use mathlib.Core.Bool.{Bool, true, false, ◌&&◌}
use Prim.Native.Nat.{ℕ, zero, suc, ◌*◌, ◌/◌, ◌%◌, ◌^◌, ◌<◌, ◌≤◌}
use native.Mathlib.Decide.{ℕ_discrete}
use native.Mathlib.Omega.{arith}
use borrow.Author.Tests.{ne_eqb}
use lib.Dec.{T, eqb, eqb→eq, ltb, ltb→lt, leb, leb→le}
use lib.ListN.{get_or}
use Rattle.frame.specs.Pick.{pick}
use Rattle.frame.specs.Charts.{Chart, one_bit, two_bits, feet_tens, decimal, inches, sixteenths, place_in, size_of}
use Rattle.frame.specs.Inside.Packed.{chart_of, places_of}
use Rattle.frame.proofs.Both.{and_left, and_right}

pub pick-case : {A : Type 0} (P : A → Type 0) (t : Bool) {a b : A} → P a → P b → P (pick t a b)
pick-case P true pa pb = pa
pick-case P false pa pb = pb

-- what holds of the six charts holds of the chart of any number
pub every-chart : (P : Chart → Type 0) → P one_bit → P two_bits → P feet_tens → P decimal → P inches → P sixteenths → (k : ℕ) → P (chart_of k)
unfolding chart_of
every-chart P a b c d e f k =
    pick-case P (eqb k 0) a
    (pick-case P (eqb k 1) b (pick-case P (eqb k 2) c (pick-case P (eqb k 3) d (pick-case P (eqb k 4) e f))))

-- a test at every number below n
abbrev pub all_below : (ℕ → Bool) → ℕ → Bool
all_below f zero = true
all_below f (suc n) = all_below f n && f n

pub at-below : (f : ℕ → Bool) (n : ℕ) → T (all_below f n) → (k : ℕ) → k < n → T (f k)
at-below f zero t k h = absurd (omega arith)
at-below f (suc n) t k h =
    elim (ℕ_discrete k n) [
      | yes e ↦ subst (λ (m : ℕ). T (f m)) (sym e) (and_right (all_below f n) (f n) t)
      | no e ↦ at-below f n (and_left (all_below f n) (f n) t) k (omega arith)
    ]

-- the chart of a number that no other chart has
pub else-sixteenths : (k : ℕ) → (k ≡ 0 → ⊥) → (k ≡ 1 → ⊥) → (k ≡ 2 → ⊥) → (k ≡ 3 → ⊥) → (k ≡ 4 → ⊥) → chart_of k ≡ sixteenths
unfolding chart_of
else-sixteenths k a b c d e = simp (ne_eqb _ _ a, ne_eqb _ _ b, ne_eqb _ _ c, ne_eqb _ _ d, ne_eqb _ _ e)

-- the table of places holds, at each code, the code's place
place_right : Chart → ℕ → Bool
place_right c code = eqb (places_of c / 2 ^ (4 * code) % 16) (place_in code c.codes)

pub places-rule : (k code : ℕ) → code < 16 → places_of (chart_of k) / 2 ^ (4 * code) % 16 ≡ place_in code (chart_of k).codes
unfolding place_right places_of place_in one_bit two_bits feet_tens decimal inches sixteenths
places-rule k code h = eqb→eq _ _ (at-below (place_right (chart_of k)) 16 (every-chart (λ (c : Chart). T (all_below (place_right c) 16)) tt tt tt tt tt tt k) code h)

-- every code takes four bits
code_small : Chart → ℕ → Bool
code_small c at = ltb (get_or c.codes at 0) 16

pub code-small : (k at : ℕ) → at < 16 → get_or (chart_of k).codes at 0 < 16
unfolding code_small one_bit two_bits feet_tens decimal inches sixteenths
code-small k at h = ltb→lt _ _ (at-below (code_small (chart_of k)) 16 (every-chart (λ (c : Chart). T (all_below (code_small c) 16)) tt tt tt tt tt tt k) at h)

-- a digit has from 2 to 16 values, and an even number of them
pub size_low : (k : ℕ) → 2 ≤ size_of (chart_of k)
unfolding one_bit two_bits feet_tens decimal inches sixteenths
size_low k = leb→le 2 (size_of (chart_of k)) (every-chart (λ (c : Chart). T (leb 2 (size_of c))) tt tt tt tt tt tt k)

pub size-high : (k : ℕ) → size_of (chart_of k) ≤ 16
unfolding one_bit two_bits feet_tens decimal inches sixteenths
size-high k = leb→le (size_of (chart_of k)) 16 (every-chart (λ (c : Chart). T (leb (size_of c) 16)) tt tt tt tt tt tt k)

pub size-even : (k : ℕ) → size_of (chart_of k) % 2 ≡ 0
unfolding one_bit two_bits feet_tens decimal inches sixteenths
size-even k = eqb→eq (size_of (chart_of k) % 2) 0 (every-chart (λ (c : Chart). T (eqb (size_of c % 2) 0)) tt tt tt tt tt tt k)
