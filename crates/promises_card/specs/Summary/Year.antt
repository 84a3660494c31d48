-- A year: summaries joined one after another, as many as there are. In whichever order they come the page is the same.
use Rattle.std.specs.Prelude.{◌≡◌, List, [], ◌∷◌, ◌++◌, eqb}
use Rattle.frame.specs.Pick.{pick}
use Rattle.summary.specs.declared.Summary.{Summary}
use Rattle.summary.specs.declared.Made.{Made}
use Rattle.summary.specs.Line.{blank_summary}
use Rattle.summary.specs.Calls.{made_of}
use Rattle.summary.specs.Joined.{join_of}
use Rattle.promises_card.specs.Summary.Join.{Handed, Clean}

-- Each is joined to what the ones before it gave; where one join is refused, so is the whole.
unfoldable pub joined_on : Made → List Summary → Made
joined_on m [] = m
joined_on m (s ∷ ss) = joined_on (pick (eqb m.number 0) (join_of m.summary s) m) ss

-- It begins with a blank one.
abbrev pub year_of : List Summary → Made
year_of ss = joined_on (made_of blank_summary 0) ss

-- None of the refusals names one of them by itself.
pub data AllClean : List Summary → Type 0 where
  none_clean : AllClean []
  one_clean : {s : Summary} {ss : List Summary} → Handed s → Clean s → AllClean ss → AllClean (s ∷ ss)

pub record Year : Type 0 where
  -- Two that stand side by side may be exchanged, and so any order be made of any other.
  pub exchanged : (before : List Summary) (a b : Summary) (after : List Summary) → AllClean (before ++ a ∷ b ∷ after)
      → (year_of (before ++ a ∷ b ∷ after)).number ≡ 0 → year_of (before ++ b ∷ a ∷ after) ≡ year_of (before ++ a ∷ b ∷ after)
