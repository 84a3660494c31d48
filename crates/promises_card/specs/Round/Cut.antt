-- A round's cut: its stores are one row, in the order of its replies, and an allowance leaves the first so many of them made. So a cut that nobody told a round of
-- leaves what a round told of it leaves.
use Rattle.std.specs.Prelude.{◌≡◌, List, [], ◌∷◌, ◌++◌, ℕ, ◌*◌, ◌≤◌, eqb, ltb, length, take}
use Rattle.frame.specs.Pick.{pick}
use Rattle.sheet.specs.Record.{Entry}
use Rattle.sheet.specs.Slots.{next}
use Rattle.sheet.specs.Stores.{Store, made, stores}
use Rattle.summary.specs.declared.Summary.{Summary}
use Rattle.round.specs.declared.Round.{Round}
use Rattle.round.specs.declared.Rounded.{Rounded}
use Rattle.round.specs.declared.RoundedPage.{RoundedPage}
use Rattle.round.specs.Replies.{entries_of}
use Rattle.round.specs.Saving.{Page, none, kept, save_refusal, page_with}
use Rattle.round.specs.Calls.{most_replies, SavesRound, SavesRoundWith}

-- The stores of replies saved one after another, with nothing cut: those of each, in order, into the slot that it goes to on the sheet that the ones before it
-- left; none from the first refused reply on.
unfoldable pub stores_from : List ℕ → Page → List Entry → List Store
stores_from s page [] = []
stores_from s page (e ∷ es) =
    pick (eqb (save_refusal s page e) 0) (stores (32 * next s) e ++ stores_from (made s (stores (32 * next s) e)) (page_with e page) es) []

-- The stores that a round makes, in order: as many as it may. One of more than 30 replies makes none.
abbrev pub round_stores : List ℕ → Page → Round → ℕ → List Store
round_stores s page r allowance = take allowance (pick (ltb most_replies r.count) [] (stores_from s page (entries_of r)))

pub record RoundCut : Type 0 where
  -- The sheet after a round is the one before it with those stores made, one after another, and the answer is their number.
  pub made_so : (s : List ℕ) (r : Round) (allowance : ℕ) (answer : Rounded) (t : List ℕ) → SavesRound s r allowance answer t
      → (t ≡ made s (round_stores s none r allowance)) × (answer.stores ≡ length (round_stores s none r allowance))
  pub made_so_with : (s : List ℕ) (page : Summary) (r : Round) (allowance : ℕ) (answer : RoundedPage) (t : List ℕ)
      → SavesRoundWith s page r allowance answer t
      → (t ≡ made s (round_stores s (kept page) r allowance)) × (answer.stores ≡ length (round_stores s (kept page) r allowance))
  -- cut: the sheet after the first k stores of a round told of more is the sheet after a round told of k.
  pub cut : (s : List ℕ) (r : Round) (allowance k : ℕ) → k ≤ allowance → (answer : Rounded) (t : List ℕ) → SavesRound s r k answer t
      → made s (take k (round_stores s none r allowance)) ≡ t
  pub cut_with : (s : List ℕ) (page : Summary) (r : Round) (allowance k : ℕ) → k ≤ allowance → (answer : RoundedPage) (t : List ℕ)
      → SavesRoundWith s page r k answer t → made s (take k (round_stores s (kept page) r allowance)) ≡ t
