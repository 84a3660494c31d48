-- How the code joins: it merges two rows of lines that rise. That merging them is `put_all` of summary/specs/Joined.antt is proved.
use Rattle.std.specs.Prelude.{◌≡◌, List, [], ◌∷◌, ◌<◌, ◌≤◌, eqb, ltb, length, get_or, drop}
use Rattle.std.specs.declared.cmp.Ordering.{Ordering}
use Rattle.std.specs.declared.cmp.Ordering.TheVariants.{Less, Greater, Equal}
use Rattle.frame.specs.Pick.{pick}
use Rattle.summary.specs.declared.Line.{Line}
use Rattle.summary.specs.declared.Summary.{Summary}
use Rattle.summary.specs.Line.{pair_of, together, blank_line}
use Rattle.summary.specs.Joined.{join_lines}
use Rattle.summary.specs.Sound.{Sound, Few}

-- Two summaries that can be merged: the lines of both rise, no count of either is over, and they have at most 30 pairs together.
pub record Joinable (a b : Summary) : Type 0 where
  pub first : Sound a
  pub second : Sound b
  pub few_first : Few a
  pub few_second : Few b
  pub pairs : length (join_lines a b) ≤ 30

-- A line and the lines behind it, merged with others: `rest` merges those behind it.
unfoldable pub merged_from : Line → (List Line → List Line) → List Line → List Line
unfolding pair_of together
merged_from l rest [] = l ∷ rest []
merged_from l rest (m ∷ ms) =
    pick (ltb (pair_of l) (pair_of m)) (l ∷ rest (m ∷ ms)) (pick (eqb (pair_of l) (pair_of m)) (together l m ∷ rest ms) (m ∷ merged_from l rest ms))

unfoldable pub merged : List Line → List Line → List Line
unfolding merged_from
merged [] ms = ms
merged (l ∷ ls) ms = merged_from l (merged ls) ms

-- Whose line is next of two rows: the lower one's, or both where they are of one pair.
pub record Turn (ls ms : List Line) (whose : Ordering) : Type 0 where
  pub first : whose ≡ Less → (0 < length ls) × (merged ls ms ≡ get_or ls 0 blank_line ∷ merged (drop 1 ls) ms)
  pub second : whose ≡ Greater → (0 < length ms) × (merged ls ms ≡ get_or ms 0 blank_line ∷ merged ls (drop 1 ms))
  pub same : whose ≡ Equal
      → (0 < length ls) × ((0 < length ms) × (merged ls ms ≡ together (get_or ls 0 blank_line) (get_or ms 0 blank_line) ∷ merged (drop 1 ls) (drop 1 ms)))
