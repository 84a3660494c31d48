-- All that is promised of areas.
use Rattle.promises_areas.specs.AcceptsExactly.{AcceptsExactly}
use Rattle.promises_areas.specs.EachOnce.{EachOnce}
use Rattle.promises_areas.specs.Planner.{Planner}
use Rattle.promises_areas.specs.FirstFault.{AreasFirstFault}
use Rattle.promises_areas.specs.OneOutcome.{AreasOneOutcome}

pub record AreasPromises : Type 0 where
  pub accepts-exactly : AcceptsExactly
  pub each-once : EachOnce
  pub planner : Planner
  pub first-fault : AreasFirstFault
  pub one-outcome : AreasOneOutcome
