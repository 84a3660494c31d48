-- The checker accepts a plan exactly when it keeps the rules and covers the site.
use Rattle.std.specs.Prelude.{◌≡◌, List, ℕ, ◌≤◌, length}
use Rattle.areas.specs.Check.{ChecksAreas}
use Rattle.promises_areas.specs.Plans.{PlanOf}

pub record AcceptsExactly : Type 0 where
  pub accepted : (site plan : List ℕ) (answer : ℕ) → ChecksAreas site plan answer → answer ≡ 0 → PlanOf site plan
  pub kept : (site plan : List ℕ) (answer : ℕ) → ChecksAreas site plan answer → length site ≤ 120 → PlanOf site plan → answer ≡ 0
