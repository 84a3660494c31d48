-- `frame::replies::by_level` meets its contract, by whether the fault is 7, 8 or 6. Assumes nothing.
use mathlib.Core.Path.{◌≡◌}
use Prim.Native.Nat.{ℕ, ◌/◌}
use native.Mathlib.Omega.{arith}
use Rattle.frame.specs.Faults.{fault}
use Rattle.frame.proofs.replies.by_level.Goals as goal

pub returns-in-8 : goal.returns-in-8
returns-in-8 c = simp c.in-8.is

pub returns-in_default : goal.returns-in_default
returns-in_default c = let is : c.args.code / 65536 ≡ 6 = omega arith in simp is
