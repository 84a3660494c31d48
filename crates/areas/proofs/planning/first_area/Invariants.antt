-- `areas::planning::first_area` meets its contract: at each turn the area is those passed and those that yet join it. Assumes nothing.
use Rattle.std.proofs.Common.{◌≡◌, ◌+◌, ◌≤◌, drop}
use Rattle.areas.specs.Plan.{joining, first_area}
use Rattle.areas.proofs.planning.first_area.Given as goal

abbrev pub invariant-loop-t : goal.invariant-loop-t
invariant-loop-t l =
    (l.area.0 ≡ l.t-index) × (l.area.0 ≤ 30) × (l.area.1.0 ≤ 10000) × (l.area.1.1.0 ≤ 500)
    × (first_area l.site ≡ l.area.0 + joining l.area.0 l.area.1.0 l.area.1.1.0 (drop l.t-index l.site))
