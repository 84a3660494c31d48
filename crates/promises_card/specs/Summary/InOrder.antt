-- In order: the summary that a save leaves has its lines in rising order, its unused lines blank, and levels exactly where it has a good reply.
use Rattle.std.specs.Prelude.{◌≡◌, ◌≢◌, List, ℕ, ◌+◌, ◌<◌, ◌≤◌, length}
use Rattle.summary.specs.declared.Summary.{Summary}
use Rattle.summary.specs.Line.{no_level, pair_of, blank_line}
use Rattle.summary.specs.Handed.{line_at}
use Rattle.promises_card.specs.Summary.Chain.{Step, Goes}

pub record Ordered (s : Summary) : Type 0 where
  pub few : s.count ≤ 30
  pub rises : (i : ℕ) → i + 1 < s.count → pair_of (line_at s i) < pair_of (line_at s (i + 1))
  pub blank : (i : ℕ) → s.count ≤ i → i < 30 → line_at s i ≡ blank_line
  -- A pair with no good reply has no lowest or highest, and every other has both.
  pub without : (i : ℕ) → i < s.count → (line_at s i).good ≡ 0 → ((line_at s i).lowest ≡ no_level) × ((line_at s i).highest ≡ no_level)
  pub with_levels : (i : ℕ) → i < s.count → (line_at s i).good ≢ 0 → ((line_at s i).lowest ≢ no_level) × ((line_at s i).highest ≢ no_level)

pub record InOrder : Type 0 where
  pub left : (s : List ℕ) (page : Summary) → length page.lines ≡ 30 → (x : Step) (t : List ℕ) → Goes s page x t
      → x.answer.number ≢ 37 → Ordered x.answer.summary
