-- Document 02, request 14: the plan that is proposed. Each area takes as many transmitters as it may.
use Rattle.std.specs.Prelude.{◌≡◌, Bool, not, ◌&&◌, List, [], ◌∷◌, ◌++◌, ℕ, zero, suc, ◌+◌, ◌-◌, eqb, ltb, leb, length, drop, replicate}
use Rattle.frame.specs.Pick.{pick}
use Rattle.frame.specs.Faults.{◌gives◌, first_of}
use Rattle.areas.specs.declared.Plan.{Plan}
use Rattle.areas.specs.Site.{feet, tenths}

-- A transmitter joins an area that has so many, with so many feet and tenths, where the area stays within its limits.
abbrev pub joins : (many far ohms : ℕ) → ℕ → Bool
joins many far ohms t = leb (many + 1) 30 && leb (far + feet t) 10000 && leb (ohms + tenths t) 500

-- How many more join it, one after another.
unfoldable pub joining : (many far ohms : ℕ) → List ℕ → ℕ
joining many far ohms [] = 0
joining many far ohms (t ∷ ts) = pick (joins many far ohms t) (suc (joining (many + 1) (far + feet t) (ohms + tenths t) ts)) 0

-- The first area of a site: none where there is no transmitter, or where the first fits no area.
abbrev pub first_area : List ℕ → ℕ
first_area site = joining 0 0 0 site

-- The areas of a site, at most so many, and what they leave over.
unfoldable pub greedy : ℕ → List ℕ → List ℕ
greedy zero site = []
greedy (suc k) site = pick (eqb (first_area site) 0) [] (first_area site ∷ greedy k (drop (first_area site) site))

unfoldable pub rest : ℕ → List ℕ → List ℕ
rest zero site = site
rest (suc k) site = pick (eqb (first_area site) 0) site (rest k (drop (first_area site) site))

-- Planning: 34 more than 120 transmitters, 35 where 8 areas leave something over. That then no plan exists is promised and proved.
unfoldable pub plan_fault : List ℕ → ℕ
plan_fault site = first_of (ltb 120 (length site) gives 34 ∷ not (eqb (length (rest 8 site)) 0) gives 35 ∷ [])

-- A plan told in integers, 0 after its last area; beside a refusal all else is 0.
abbrev pub plan_told : List ℕ → Plan
plan_told plan = record { sizes = plan ++ replicate (8 - length plan) 0; areas = length plan; number = 0 }

abbrev pub refused : ℕ → Plan
refused number = record { sizes = replicate 8 0; areas = 0; number = number }

-- What `sisal_plan_areas` answers.
pub record PlansAreas (site : List ℕ) (answer : Plan) : Type 0 where
  pub answers : answer ≡ pick (eqb (plan_fault site) 0) (plan_told (greedy 8 site)) (refused (plan_fault site))
