-- How the page's text is said: words, and numbers put in their places.
use Rattle.std.specs.Prelude.{◌&&◌, List, [], ◌∷◌, ◌++◌, ℕ, zero, suc, eqb, ltb, length, get_or, drop}
use Rattle.frame.specs.Pick.{pick}
use Rattle.listing.specs.Text.{in_decimal}

-- A form: text in which each "~" stands for the next of some numbers, in decimal, while there is one.
unfoldable pub fill : List ℕ → List ℕ → List ℕ
fill [] ns = []
fill (c ∷ cs) ns = pick (eqb c 126 && ltb 0 (length ns)) (in_decimal (get_or ns 0 0) ++ fill cs (drop 1 ns)) (c ∷ fill cs ns)

-- Several forms in one text, a "|" between them: the first of them, what follows it, and the one that has so many before it.
unfoldable pub first : List ℕ → List ℕ
first [] = []
first (c ∷ cs) = pick (eqb c 124) [] (c ∷ first cs)

unfoldable pub others : List ℕ → List ℕ
unfolding first
others fs = drop (suc (length (first fs))) fs

unfoldable pub choice : ℕ → List ℕ → List ℕ
unfolding first others
choice zero fs = first fs
choice (suc n) fs = choice n (others fs)
