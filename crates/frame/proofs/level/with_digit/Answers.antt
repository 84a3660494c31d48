-- `frame::level::with_digit` meets its contract: a level below 2 ^ 32 times at most 16 values fits the word. Assumes nothing.
use Prim.Native.Nat.{◌%◌, ◌≤◌}
use native.Mathlib.Nat.{mul-le-mul_left}
use native.Mathlib.Omega.{arith}
use Rattle.frame.proofs.Tables.{size-high}
use Rattle.frame.proofs.level.with_digit.Goals as goal

pub overflow_mul-result : goal.overflow_mul-result
overflow_mul-result c =
    let a = c.args in
    let small : c.size.result ≤ 16 = rw c.size.ensures (size-high (a.row % 16)) in
    omega (arith, mul-le-mul_left a.sofar small)

pub overflow_add-result : goal.overflow_add-result
overflow_add-result c =
    let a = c.args in
    let small : c.size.result ≤ 16 = rw c.size.ensures (size-high (a.row % 16)) in
    omega (arith, mul-le-mul_left a.sofar small)
