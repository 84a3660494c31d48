-- The sum without carry is a fold, and what holds of each byte of data holds of all. Assumes nothing.
use mathlib.Core.Path.{◌≡◌, refl, ap}
use mathlib.Core.Bool.{◌&&◌, Bool}
use mathlib.Core.List.{List, [], ◌∷◌}
use Prim.Native.Nat.{ℕ}
use lib.Bits.{bit_xor}
use Rattle.std.specs.List.{fold, list_all}
use Rattle.enraf.specs.Check.{sum_after}
use Rattle.enraf.specs.Item.{is_character, all_characters}

pub sum-folds : (sum : ℕ) (part : List ℕ) → fold bit_xor sum part ≡ sum_after sum part
unfolding sum_after
sum-folds sum [] = refl
sum-folds sum (b ∷ part) = sum-folds (bit_xor sum b) part

pub all-are : (part : List ℕ) → list_all is_character part ≡ all_characters part
unfolding all_characters
all-are [] = refl
all-are (b ∷ part) = ap (λ (t : Bool). is_character b && t) (all-are part)
