-- 25 and 24 of a join both ways, in request 08's words: of two summaries in order, 25 exactly where the join has more than 30 pairs or either has unkept records, and
-- 24 exactly where it has not and a pair's good or faulty replies of both sides come to more than 1,000,000.
use Rattle.std.specs.Prelude.{◌≡◌, ◌≢◌, ◌↔◌, ◌⊎◌, List, [], ◌∷◌, ℕ, ◌+◌, ◌<◌}
use Rattle.frame.specs.Rising.{held_at}
use Rattle.summary.specs.declared.Line.{Line}
use Rattle.summary.specs.declared.Summary.{Summary}
use Rattle.summary.specs.declared.Made.{Made}
use Rattle.summary.specs.Line.{pair_of}
use Rattle.summary.specs.Handed.{lines_of}
use Rattle.summary.specs.Joined.{JoinsSummaries}
use Rattle.promises_card.specs.Summary.OwnFigures.{line_in}
use Rattle.promises_card.specs.Summary.InOrder.{Ordered}
use Rattle.promises_card.specs.Summary.Join.{Handed}

-- 1 where a pair has no line, and how many lines have a pair that other lines have not.
abbrev pub one_if_none : List Line → ℕ
one_if_none [] = 1
one_if_none (x ∷ xs) = 0

unfoldable pub new_pairs : List Line → List Line → ℕ
new_pairs ls [] = 0
new_pairs ls (x ∷ xs) = one_if_none (held_at pair_of (pair_of x) ls) + new_pairs ls xs

-- The pairs of a join: those of the first side, and those of the second that the first has not.
abbrev pub pairs_of_both : Summary → Summary → ℕ
pairs_of_both a b = a.count + new_pairs (lines_of a) (lines_of b)

-- The good and the faulty replies of a pair's line, 0 where it has none.
abbrev pub good_in : List Line → ℕ
good_in [] = 0
good_in (x ∷ xs) = x.good

abbrev pub faulty_in : List Line → ℕ
faulty_in [] = 0
faulty_in (x ∷ xs) = x.faulty

pub record JoinRefusedExactly : Type 0 where
  pub pairs : (a b : Summary) → Handed a → Handed b → Ordered a → Ordered b → (r : Made) → JoinsSummaries a b r
      → (r.number ≡ 25) ↔ ((30 < pairs_of_both a b) ⊎ ((0 < a.others) ⊎ (0 < b.others)))
  pub counts : (a b : Summary) → Handed a → Handed b → Ordered a → Ordered b → (r : Made) → JoinsSummaries a b r → r.number ≢ 25
      → (r.number ≡ 24)
      ↔ ((k : ℕ) × ((1_000_000 < good_in (line_in k a) + good_in (line_in k b)) ⊎ (1_000_000 < faulty_in (line_in k a) + faulty_in (line_in k b))))
