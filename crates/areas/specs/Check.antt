-- Document 02, request 14: a plan, and what the checker answers of it. A plan has the number of transmitters of each area, in cable order.
use Rattle.std.specs.Prelude.{◌≡◌, Bool, not, ◌&&◌, List, [], ◌∷◌, ℕ, eqb, ltb, leb, length, take, drop}
use Rattle.frame.specs.Faults.{◌gives◌, first_of}
use Rattle.areas.specs.Site.{is_area}

-- The runs of a plan, one after another: each is there whole and is an area, and nothing of the site is left behind the last.
unfoldable pub keeps : List ℕ → List ℕ → Bool
keeps site [] = eqb (length site) 0
keeps site (n ∷ ns) = leb n (length site) && is_area (take n site) && keeps (drop n site) ns

-- At most 8 areas.
unfoldable pub accepts : List ℕ → List ℕ → Bool
accepts site plan = leb (length plan) 8 && keeps site plan

-- Checking: 34 more than 120 transmitters, 36 plan not accepted.
unfoldable pub check_fault : List ℕ → List ℕ → ℕ
check_fault site plan = first_of (ltb 120 (length site) gives 34 ∷ not (accepts site plan) gives 36 ∷ [])

-- What `sisal_check_areas` answers.
pub record ChecksAreas (site plan : List ℕ) (answer : ℕ) : Type 0 where
  pub answers : answer ≡ check_fault site plan
