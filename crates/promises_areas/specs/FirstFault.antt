-- First fault: 34 is asked first, by both calls.
use Rattle.std.specs.Prelude.{not, List, [], ◌∷◌, ℕ, ltb, length}
use Rattle.frame.specs.Faults.{Test, ◌gives◌}
use Rattle.areas.specs.declared.Plan.{Plan}
use Rattle.areas.specs.Check.{accepts, ChecksAreas}
use Rattle.areas.specs.Plan.{greedy, PlansAreas}
use Rattle.promises_frame.specs.FirstFault.{FirstThatApplies}

abbrev pub check_table : List ℕ → List ℕ → List Test
check_table site plan = ltb 120 (length site) gives 34 ∷ not (accepts site plan) gives 36 ∷ []

-- 35 where the plan of largest areas is not accepted; by `Planner` that is where no plan exists.
abbrev pub plan_table : List ℕ → List Test
plan_table site = ltb 120 (length site) gives 34 ∷ not (accepts site (greedy 8 site)) gives 35 ∷ []

pub record AreasFirstFault : Type 0 where
  pub check : (site plan : List ℕ) (answer : ℕ) → ChecksAreas site plan answer → FirstThatApplies (check_table site plan) (34 ∷ 36 ∷ []) answer
  pub plan : (site : List ℕ) (got : Plan) → PlansAreas site got → FirstThatApplies (plan_table site) (34 ∷ 35 ∷ []) got.number
