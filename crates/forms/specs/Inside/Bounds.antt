-- The room that forms take.
use Rattle.std.specs.Prelude.{List, [], ◌∷◌, ℕ, suc, max, eqb}
use Rattle.frame.specs.Pick.{pick}

-- the bytes of the longest of several forms, of the first of which so many have passed
abbrev pub widest_from : ℕ → List ℕ → ℕ
widest_from n [] = n
widest_from n (c ∷ cs) = pick (eqb c 124) (max n (widest_from 0 cs)) (widest_from (suc n) cs)

abbrev pub widest : List ℕ → ℕ
widest fs = widest_from 0 fs
