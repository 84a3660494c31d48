-- Told: from a round's replies and its answer, the answer of each save that it tried.
use Rattle.std.specs.Prelude.{◌≡◌, List, [], ◌∷◌, map, ℕ, zero, suc, ◌+◌, ◌-◌, eqb, ltb}
use Rattle.frame.specs.Pick.{pick}
use Rattle.sheet.specs.Record.{Entry, length_of}
use Rattle.summary.specs.declared.Summary.{Summary}
use Rattle.round.specs.declared.Round.{Round}
use Rattle.round.specs.declared.Rounded.{Rounded}
use Rattle.round.specs.declared.RoundedPage.{RoundedPage}
use Rattle.round.specs.Replies.{entries_of}
use Rattle.promises_card.specs.Round.Tries.{try_save, try_step, answers_of}
use Rattle.promises_card.specs.Round.OneByOne.{BySaves, BySteps}

-- After the closed ones: the stores that are left were those of a broken save; or the number refused the next reply; or no other was tried.
abbrev pub after_the_closed : ℕ → ℕ → List (ℕ × ℕ)
after_the_closed stores number = pick (ltb 0 stores) ((stores, 0) ∷ []) (pick (eqb number 0) [] ((0, number) ∷ []))

-- The closed ones answered all their stores.
unfoldable pub answers_told : List Entry → ℕ → ℕ → ℕ → List (ℕ × ℕ)
answers_told es zero stores number = after_the_closed stores number
answers_told [] (suc closed) stores number = []
answers_told (e ∷ es) (suc closed) stores number =
    (length_of e + 2, 0) ∷ answers_told es closed (stores - (length_of e + 2)) number

-- Whatever saves a round went by.
pub record RoundTold : Type 0 where
  pub plain : (s : List ℕ) (r : Round) (allowance : ℕ) (answer : Rounded) (t : List ℕ) (one : BySaves s r allowance answer t)
      → answers_of (map try_save one.saves) ≡ answers_told (entries_of r) answer.closed answer.stores answer.number
  pub with_summary : (s : List ℕ) (page : Summary) (r : Round) (allowance : ℕ) (answer : RoundedPage) (t : List ℕ)
      (one : BySteps s page r allowance answer t)
      → answers_of (map try_step one.steps) ≡ answers_told (entries_of r) answer.closed answer.stores answer.number
