-- Made afresh: the call answers the summary of the sheet's list; and what that summary says of each pair, in counts.
use Rattle.std.specs.Prelude.{◌≡◌, true, false, List, [], ◌∷◌, ℕ, ◌+◌, ◌<◌, ◌≤◌, length, get_or}
use Rattle.frame.specs.Rising.{held_at}
use Rattle.sheet.specs.Record.{Entry}
use Rattle.sheet.specs.Slots.{size_allowed, list_of}
use Rattle.summary.specs.declared.Line.{Line}
use Rattle.summary.specs.declared.Made.{Made}
use Rattle.summary.specs.Line.{no_level, pair_of, blank_summary}
use Rattle.summary.specs.Worked.{entries_of_pair, good_levels, kept_pairs, among, summary_of}
use Rattle.summary.specs.Handed.{lines_of}
use Rattle.summary.specs.Calls.{MakesSummary}

-- A line tells of some records: how many replies were good and how many faulty; its lowest is one of their levels and none is lower, and the highest
-- alike; with no good reply it has neither.
pub record TellsOf (l : List Entry) (x : Line) : Type 0 where
  pub all : x.good + x.faulty ≡ length l
  pub good : x.good ≡ length (good_levels l)
  pub lowest : (i : ℕ) → i < length (good_levels l) → x.lowest ≤ get_or (good_levels l) i 0
  pub lowest_is : 0 < length (good_levels l) → (i : ℕ) × ((i < length (good_levels l)) × (get_or (good_levels l) i 0 ≡ x.lowest))
  pub highest : (i : ℕ) → i < length (good_levels l) → get_or (good_levels l) i 0 ≤ x.highest
  pub highest_is : 0 < length (good_levels l) → (i : ℕ) × ((i < length (good_levels l)) × (get_or (good_levels l) i 0 ≡ x.highest))
  pub no-level : length (good_levels l) ≡ 0 → (x.lowest ≡ no_level) × (x.highest ≡ no_level)

pub record Afresh : Type 0 where
  pub answers : (sheet : List ℕ) (answer : Made) → MakesSummary sheet answer → size_allowed sheet ≡ true
      → (answer.summary ≡ summary_of (list_of sheet)) × (answer.number ≡ 0)
  pub refused : (sheet : List ℕ) (answer : Made) → MakesSummary sheet answer → size_allowed sheet ≡ false
      → (answer.summary ≡ blank_summary) × (answer.number ≡ 12)
  -- A kept pair has a line, which tells of its records; no other pair has one.
  pub kept : (l : List Entry) (k : ℕ) → among k (kept_pairs l) ≡ true
      → (x : Line) × ((held_at pair_of k (lines_of (summary_of l)) ≡ x ∷ []) × ((pair_of x ≡ k) × TellsOf (entries_of_pair k l) x))
  pub not-kept : (l : List Entry) (k : ℕ) → among k (kept_pairs l) ≡ false → held_at pair_of k (lines_of (summary_of l)) ≡ []
