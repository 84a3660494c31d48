-- 37 and 24 both ways: 37 names exactly the summaries that are not in order, and 24 exactly those in order that have a count above 1,000,000. Nothing else is asked of
-- a summary that is handed in, be it of address, settings or levels.
use Rattle.std.specs.Prelude.{◌≡◌, ◌↔◌, ◌⊎◌, List, ℕ, ◌<◌, ◌≤◌}
use Rattle.sheet.specs.Record.{Entry}
use Rattle.summary.specs.declared.Line.{Line}
use Rattle.summary.specs.declared.Summary.{Summary}
use Rattle.summary.specs.declared.Kept.{Kept}
use Rattle.summary.specs.declared.Made.{Made}
use Rattle.summary.specs.Line.{pair_of}
use Rattle.summary.specs.Handed.{line_at}
use Rattle.summary.specs.Calls.{SavesWith}
use Rattle.summary.specs.Joined.{JoinsSummaries}
use Rattle.promises_card.specs.Summary.InOrder.{Ordered}

-- No count in it is above 1,000,000; one of just so many passes.
pub record FewEnough (s : Summary) : Type 0 where
  pub others : s.others ≤ 1_000_000
  pub good : (i : ℕ) → i < s.count → (line_at s i).good ≤ 1_000_000
  pub faulty : (i : ℕ) → i < s.count → (line_at s i).faulty ≤ 1_000_000

pub record RefusedExactly : Type 0 where
  pub shape : (sheet : List ℕ) (s : Summary) (e : Entry) (allowance : ℕ) (answer : Kept) (t : List ℕ) → SavesWith sheet s e allowance answer t
      → (answer.number ≡ 37) ↔ (Ordered s → ⊥)
  pub counts : (sheet : List ℕ) (s : Summary) (e : Entry) (allowance : ℕ) (answer : Kept) (t : List ℕ) → SavesWith sheet s e allowance answer t
      → (answer.number ≡ 24) ↔ (Ordered s × (FewEnough s → ⊥))
  -- A join asks the same of its two sides.
  pub join_shape : (a b : Summary) (r : Made) → JoinsSummaries a b r → (r.number ≡ 37) ↔ (Ordered a × Ordered b → ⊥)
  -- The order of lines is by address, then settings, which have 16 bits.
  pub by_address : (l m : Line) → l.settings < 0x10000 → m.settings < 0x10000
      → (pair_of l < pair_of m) ↔ ((l.address < m.address) ⊎ ((l.address ≡ m.address) × (l.settings < m.settings)))
