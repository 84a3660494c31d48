-- `frame::writing::front` meets its contract: the parts are small enough to add up, and add up to the definition. Assumes nothing.
use Prim.Native.Nat.{◌%◌, ◌^◌, ◌<◌, ◌≤◌}
use native.Mathlib.Omega.{arith}
use Rattle.frame.proofs.Marks.{flag-small}
use Rattle.frame.proofs.Sums.{level-small, three-lt}
use Rattle.frame.proofs.writing.front.Goals.{After-three_of, After-write_level-level}
use Rattle.frame.proofs.writing.front.Goals as goal

-- how large each part can be
head : (c : After-three_of) → c.three_of.result < 2 ^ 12
head c = rw c.three_of.ensures (three-lt c.args.address c.requires)

level : (c : After-write_level-level) → c.write_level-level.result < 2 ^ 53
level c =
    let a = c.args in
    rw c.write_level-level.ensures (level-small (a.settings % 4) a.reading.level)

pub overflow_add-result : goal.overflow_add-result
overflow_add-result c = omega (arith, head (goal.at.overflow_add-result c).After-three_of, level (goal.at.overflow_add-result c).After-write_level-level)

pub overflow_add-result-2 : goal.overflow_add-result-2
overflow_add-result-2 c =
    let one : c.from.result ≤ 1 = rw c.from.ensures (flag-small _) in
    let zero : c.from-2.result ≤ 1 = rw c.from-2.ensures (flag-small _) in
    omega (arith, head (goal.at.overflow_add-result-2 c).After-three_of, level (goal.at.overflow_add-result-2 c).After-write_level-level, one, zero)
