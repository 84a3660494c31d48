-- At any moment: begun from its sheet, a summary equals the one worked out from that sheet's list, after every save.
use Rattle.std.specs.Prelude.{◌≡◌, ◌≢◌, true, List, ℕ}
use Rattle.sheet.specs.Slots.{size_allowed, list_of}
use Rattle.summary.specs.declared.Summary.{Summary}
use Rattle.summary.specs.Worked.{summary_of}
use Rattle.promises_card.specs.Summary.Chain.{Step, Goes, Chain}

-- Here the sheet `from` is any of an allowed size, foreign ones too.
pub record AtAnyMoment : Type 0 where
  pub equals : (from : List ℕ) → size_allowed from ≡ true → (h : List Step) (t : List ℕ) (page : Summary)
      → Chain from (summary_of (list_of from)) h t page → page ≡ summary_of (list_of t)
  -- So no save after that is refused by 37 or 24.
  pub never : (from : List ℕ) → size_allowed from ≡ true → (h : List Step) (s : List ℕ) (page : Summary)
      → Chain from (summary_of (list_of from)) h s page → (x : Step) (t : List ℕ) → Goes s page x t
      → (x.answer.number ≢ 37) × (x.answer.number ≢ 24)
