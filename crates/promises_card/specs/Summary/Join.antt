-- Putting summaries together (request 08): pair by pair, in either order and grouping, with a blank one, and of two lists put end to end.
use Rattle.std.specs.Prelude.{◌≡◌, false, ◌||◌, List, [], ◌∷◌, ◌++◌, ℕ, ◌<◌, eqb, length}
use Rattle.frame.specs.Pick.{pick}
use Rattle.frame.specs.Rising.{Rises}
use Rattle.frame.specs.Faults.{Test, ◌gives◌}
use Rattle.sheet.specs.Record.{Entry}
use Rattle.summary.specs.declared.Line.{Line}
use Rattle.summary.specs.declared.Summary.{Summary}
use Rattle.summary.specs.declared.Made.{Made}
use Rattle.summary.specs.Line.{pair_of, together, blank_summary}
use Rattle.summary.specs.Worked.{summary_of}
use Rattle.summary.specs.Handed.{lines_of, line_at, misshapen, lines_over}
use Rattle.summary.specs.Calls.{made_of}
use Rattle.summary.specs.Joined.{unkept, join_over, join_of, JoinsSummaries}
use Rattle.promises_frame.specs.One.{One}
use Rattle.promises_frame.specs.FirstFault.{FirstThatApplies}
use Rattle.promises_card.specs.Summary.OwnFigures.{line_in}
use Rattle.promises_card.specs.Summary.InOrder.{Ordered}
use Rattle.promises_card.specs.Summary.FirstFault.{out_of_shape}

-- A summary as a host hands it in: 30 lines, and settings of 16 bits.
pub record Handed (s : Summary) : Type 0 where
  pub thirty : length s.lines ≡ 30
  pub narrow : (i : ℕ) → i < 30 → (line_at s i).settings < 0x10000

-- None of the refusals names it by itself: 37, unkept records, a good or faulty count above 1,000,000.
pub record Clean (s : Summary) : Type 0 where
  pub shape : misshapen s ≡ false
  pub kept : s.others ≡ 0
  pub counts : lines_over s ≡ false

-- The lines of one pair in two summaries, together; one that has none gives way.
abbrev pub both_lines : List Line → List Line → List Line
both_lines [] [] = []
both_lines [] (y ∷ ys) = y ∷ []
both_lines (x ∷ xs) [] = x ∷ []
both_lines (x ∷ xs) (y ∷ ys) = together x y ∷ []

abbrev pub join_table : Summary → Summary → List Test
join_table a b = join_over a b gives 24 ∷ unkept a b gives 25 ∷ (out_of_shape a || out_of_shape b) gives 37 ∷ []

-- Three summaries joined from the left, and from the right: where the first join is refused, so is the whole.
abbrev pub from_left : Summary → Summary → Summary → Made
from_left a b c = pick (eqb (join_of a b).number 0) (join_of (join_of a b).summary c) (join_of a b)

abbrev pub from_right : Summary → Summary → Summary → Made
from_right a b c = pick (eqb (join_of b c).number 0) (join_of a (join_of b c).summary) (join_of b c)

pub record Join : Type 0 where
  -- Where not refused: at every pair the join's line is the two lines together, its lines rise, and no record is unkept.
  pub pair_by_pair : (a b : Summary) → Handed a → Handed b → (r : Made) → JoinsSummaries a b r → r.number ≡ 0
      → ((k : ℕ) → line_in k r.summary ≡ both_lines (line_in k a) (line_in k b)) × (Rises pair_of (lines_of r.summary) × (r.summary.others ≡ 0))
  -- Its answer is in turn in order, and none of the refusals names it by itself: so order and grouping carry on from join to join, up to twelve sheets and more.
  pub again : (a b : Summary) → Handed a → Handed b → (r : Made) → JoinsSummaries a b r → r.number ≡ 0
      → Handed r.summary × (Clean r.summary × Ordered r.summary)
  -- Order does not matter, the number given included.
  pub either_order : (a b : Summary) → Handed a → Handed b → (r q : Made) → JoinsSummaries a b r → JoinsSummaries b a q → r ≡ q
  -- Nor does grouping: both are refused, or they are equal. One refused side equals another, whichever number it gives.
  pub grouping : (a b c : Summary) → Handed a → Handed b → Handed c → Clean a → Clean b → Clean c
      → ((from_left a b c).number ≡ 0 → from_left a b c ≡ from_right a b c) × ((from_right a b c).number ≡ 0 → from_left a b c ≡ from_right a b c)
  -- A blank summary changes nothing, byte for byte.
  pub blank : (a : Summary) → Handed a → Clean a → (r q : Made) → JoinsSummaries a blank_summary r → JoinsSummaries blank_summary a q
      → (r ≡ made_of a 0) × (q ≡ made_of a 0)
  -- Where the join of two lists' summaries is not refused, it is the summary of the two lists put end to end.
  pub end_to_end : (l m : List Entry) (r : Made) → JoinsSummaries (summary_of l) (summary_of m) r → r.number ≡ 0 → r.summary ≡ summary_of (l ++ m)
  -- Refused, it answers a blank summary.
  pub refused : (a b : Summary) (r : Made) → JoinsSummaries a b r → (r.number ≡ 0 → ⊥) → r.summary ≡ blank_summary
  pub first-fault : (a b : Summary) (r : Made) → JoinsSummaries a b r → FirstThatApplies (join_table a b) (37 ∷ 25 ∷ 24 ∷ []) r.number
  pub one-outcome : (a b : Summary) → One Made (JoinsSummaries a b)
