-- The marks of bytes are the sum of the ones of each; the marks of bytes taken from one place on. Assumes nothing.
use Rattle.std.proofs.Common.{◌≡◌, refl, ap, ◌∙◌, ℕ, ◌+◌, ◌≤◌, List, [], ◌∷◌, length, get_or, drop, arith}
use Prim.Native.Nat.{zero, suc}
use lib.Count.{ones, ones_in}
use lib.ListN.{drop_of_length-le}
use Rattle.std.specs.List.{sum_by}
use Rattle.std.proofs.lemmas.List.Sums.{sum_by-cons}
use Rattle.frame.specs.Line.{marks}

pub marks-sum : (s : List ℕ) → sum_by ones s ≡ marks s
unfolding marks
marks-sum [] = refl
marks-sum (x ∷ s) = sum_by-cons ones x s ∙ ap (λ (n : ℕ). ones x + n) (marks-sum s)

ones-zero : ones 0 ≡ 0
unfolding ones ones_in
ones-zero = refl

-- the bytes from one place on: that byte, 0 where there is none, and the bytes after it
pub from_place : (s : List ℕ) (k : ℕ) → marks (drop k s) ≡ ones (get_or s k 0) + marks (drop (suc k) s)
unfolding marks
from_place [] zero = omega (arith, ones-zero)
from_place [] (suc k) = omega (arith, ones-zero)
from_place (x ∷ s) zero = refl
from_place (x ∷ s) (suc k) = from_place s k

-- past the last byte there are none
pub none_left : (s : List ℕ) (k : ℕ) → length s ≤ k → marks (drop k s) ≡ 0
unfolding marks
none_left s k h = ap marks (drop_of_length-le s h)
