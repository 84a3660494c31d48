-- Demand 3 stands: every save whose summary is not refused by 37 or 24 is one of the sheet's own, so all that demand 3 says holds of those saves; a save
-- so refused leaves the sheet as it was and says nothing of "full".
use Rattle.std.specs.Prelude.{◌≡◌, ◌≢◌, true, false, List, ℕ}
use Rattle.sheet.specs.Save.{Saves}
use Rattle.summary.specs.declared.Summary.{Summary}
use Rattle.promises_card.specs.Sheet.History.{History}
use Rattle.promises_card.specs.Summary.Chain.{Step, Goes, Chain, summary_refused, saved_as, saves_tried}

pub record DemandThreeStands : Type 0 where
  -- One save, with the same answer and the same sheet after it.
  pub one : (s : List ℕ) (page : Summary) (x : Step) (t : List ℕ) → Goes s page x t → summary_refused x ≡ false
      → Saves s x.entry x.allowance (saved_as x.answer) t
  pub refused : (s : List ℕ) (page : Summary) (x : Step) (t : List ℕ) → Goes s page x t → summary_refused x ≡ true
      → (t ≡ s) × (x.answer.number ≢ 13)
  -- A whole chain: leaving out the saves so refused gives a history of the sheet.
  pub history : (from : List ℕ) (begin : Summary) (h : List Step) (t : List ℕ) (page : Summary) → Chain from begin h t page
      → History from (saves_tried h) t
