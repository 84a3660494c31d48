-- The rule of the table of pairs, once over the whole of it: what the code's table holds at each index is the entry of that index. One test, computed
-- over the 512 entries. Assumes nothing.
use mathlib.Core.Path.{◌≡◌, ap, ◌∙◌}
use mathlib.Core.Bool.{Bool, true, false}
use Prim.Native.Nat.{ℕ, ◌+◌, ◌*◌, ◌/◌, ◌%◌, ◌^◌, ◌<◌}
use native.Mathlib.Omega.{arith}
use lib.Dec.{eqb, eqb→eq}
use lib.Pow.{shr-shr}
use Rattle.frame.specs.Pick.{pick}
use Rattle.frame.specs.Line.{mark}
use Rattle.frame.specs.Charts.{decimal, place_in, turned}
use Rattle.frame.specs.Pairs.{pair_number, table_entry, index_of}
use Rattle.frame.specs.Inside.PairWords.{words, word_of, table_at}
use Rattle.frame.proofs.Tables.{at-below}

entry_right : ℕ → Bool
entry_right i = eqb (table_at i) (table_entry i)

pub table-rule : (i : ℕ) → i < 512 → table_at i ≡ table_entry i
unfolding entry_right words pair_number decimal place_in turned
table-rule i h = eqb→eq _ _ (at-below entry_right 512 tt i h)

-- where the entry of an index stands
at_place : (i k j : ℕ) → i < 512 → i / 8 ≡ k → i % 8 ≡ j → word_of k / 2 ^ (8 * j) % 256 ≡ table_entry i
at_place i k j h w r = rw (← w, ← r) (table-rule i h)

-- the same by the codes side by side, as the code takes it out of a word
pub words-rule : (odd : Bool) (codes : ℕ) → codes < 256
    → pick odd (word_of (32 + codes / 8)) (word_of (codes / 8)) / 2 ^ (8 * (codes % 8)) % 256 ≡ table_entry (mark odd * 256 + codes)
words-rule true codes h = at_place (1 * 256 + codes) (32 + codes / 8) (codes % 8) (omega arith) (omega arith) (omega arith)
words-rule false codes h = at_place (0 * 256 + codes) (codes / 8) (codes % 8) (omega arith) (omega arith) (omega arith)

-- two codes side by side, and a code beside 0000
join : (m x a b : ℕ) → x ≡ a * 16 + b → m * 256 + x ≡ m * 256 + a * 16 + b
join m x a b e = omega (arith, e)

halves : (q : ℕ) → q % 256 ≡ q / 2 ^ 4 % 16 * 16 + q % 16
halves q = omega arith

pub index_is : (odd : Bool) (bits k : ℕ) → mark odd * 256 + bits / 2 ^ k % 256 ≡ index_of odd (bits / 2 ^ (k + 4) % 16) (bits / 2 ^ k % 16)
index_is odd bits k =
    join (mark odd) (bits / 2 ^ k % 256) (bits / 2 ^ (k + 4) % 16) (bits / 2 ^ k % 16)
    (halves (bits / 2 ^ k) ∙ ap (λ (q : ℕ). q % 16 * 16 + bits / 2 ^ k % 16) (shr-shr bits k 4))

pub index-0 : (odd : Bool) (first : ℕ) → mark odd * 256 + 16 * first ≡ index_of odd first 0
index-0 odd first = join (mark odd) (16 * first) first 0 (omega arith)
