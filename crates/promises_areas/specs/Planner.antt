-- The planner's plans are accepted; it says 35 exactly where no plan exists; and no accepted plan has fewer areas than its own.
use Rattle.std.specs.Prelude.{◌≡◌, List, ℕ, ◌≤◌, length, take}
use Rattle.areas.specs.declared.Plan.{Plan}
use Rattle.areas.specs.Check.{ChecksAreas}
use Rattle.areas.specs.Plan.{PlansAreas}
use Rattle.promises_areas.specs.Plans.{PlanOf}

-- The plan that an answer tells: its first sizes, as many as there are areas.
abbrev pub plan_in : Plan → List ℕ
plan_in p = take p.areas p.sizes

pub record Planner : Type 0 where
  pub planned_then_accepted : (site : List ℕ) (got : Plan) → PlansAreas site got → got.number ≡ 0
      → (answer : ℕ) → ChecksAreas site (plan_in got) answer → answer ≡ 0
  pub refused_then_none : (site : List ℕ) (got : Plan) → PlansAreas site got → got.number ≡ 35 → (plan : List ℕ) → ¬ PlanOf site plan
  pub one_exists_then_planned : (site : List ℕ) (got : Plan) → PlansAreas site got → length site ≤ 120 → (plan : List ℕ) → PlanOf site plan
      → got.number ≡ 0
  pub fewest : (site : List ℕ) (got : Plan) → PlansAreas site got → got.number ≡ 0
      → (plan : List ℕ) (answer : ℕ) → ChecksAreas site plan answer → answer ≡ 0
      → got.areas ≤ length plan
