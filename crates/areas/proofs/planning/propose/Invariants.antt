-- `areas::planning::propose` meets its contract: at each turn the plan is the areas taken and those that are yet to be taken. Assumes nothing.
use Rattle.std.proofs.Common.{◌≡◌, ◌-◌, ◌++◌, length, take, drop, replicate}
use Rattle.areas.specs.Plan.{greedy, rest}
use Rattle.areas.proofs.planning.propose.Given as goal

abbrev pub invariant-loop-size : goal.invariant-loop-size
invariant-loop-size l =
    (l.areas ≡ l.size-index) × (length l.size-items ≡ 8) × (drop l.size-index l.size-items ≡ replicate (8 - l.size-index) 0)
    × (greedy 8 l.fn.site ≡ take l.size-index l.size-items ++ greedy (8 - l.size-index) l.left)
    × (rest 8 l.fn.site ≡ rest (8 - l.size-index) l.left)
