-- A mark is 1 at most; the marks of bytes put end to end are the marks of each; those of 5 or 7 bytes in one sum; the mark of a flag is the flag as a
-- number. Assumes nothing.
use mathlib.Core.Path.{◌≡◌, sym, ap, ◌∙◌}
use mathlib.Core.Bool.{Bool, true, false}
use mathlib.Core.List.{List, [], ◌∷◌, ◌++◌}
use Prim.Native.Nat.{ℕ, ◌+◌, ◌≤◌}
use native.Mathlib.Nat.{zero-add, add_assoc}
use native.Mathlib.Omega.{arith}
use lib.Count.{ones}
use lib.ListN.{length, get_or}
use Rattle.std.specs.Int.{from_bool}
use Rattle.frame.specs.Line.{mark, marks}
use Rattle.frame.proofs.Counted.{from_place, none_left}

pub mark-small : (b : Bool) → mark b ≤ 1
mark-small true = omega arith
mark-small false = omega arith

pub marks-append : (a b : List ℕ) → marks (a ++ b) ≡ marks a + marks b
unfolding marks
marks-append [] b = sym (zero-add (marks b))
marks-append (x ∷ a) b = ap (λ (n : ℕ). ones x + n) (marks-append a b) ∙ sym (add_assoc (ones x) (marks a) (marks b))

pub flag-small : (b : Bool) → from_bool b ≤ 1
flag-small true = omega arith
flag-small false = omega arith

-- the marks of five bytes, and of seven
abbrev pub five_of : List ℕ → ℕ
five_of s = ones (get_or s 0 0) + ones (get_or s 1 0) + ones (get_or s 2 0) + ones (get_or s 3 0) + ones (get_or s 4 0)

pub five-bytes : (s : List ℕ) → length s ≡ 5 → five_of s ≡ marks s
five-bytes s h =
    omega (arith, from_place s 0, from_place s 1, from_place s 2, from_place s 3, from_place s 4, none_left s 5 (omega arith))

pub seven-bytes : (s : List ℕ) → length s ≡ 7 → five_of s + ones (get_or s 5 0) + ones (get_or s 6 0) ≡ marks s
seven-bytes s h =
    omega (arith, from_place s 0, from_place s 1, from_place s 2, from_place s 3, from_place s 4, from_place s 5, from_place s 6, none_left s 7 (omega arith))
