-- `frame::writing::whole_line` meets its contract: the parity bit is that of the definition, of the reply's own bytes, and it fits below the
-- rest. Assumes nothing.
use mathlib.Core.Path.{ap}
use mathlib.Core.Bool.{Bool, true, false}
use Prim.Native.Nat.{ℕ, ◌+◌, ◌-◌, ◌*◌, ◌^◌, ◌<◌, ◌≤◌}
use native.Mathlib.Nat.{one-mul, mul-le-mul_right, le_trans}
use native.Mathlib.Omega.{arith}
use Rattle.frame.specs.Pick.{pick}
use Rattle.frame.specs.Line.{put, first_bytes}
use Rattle.frame.specs.Reply.{body_of, parity_for, reply_line, size_for, count_for}
use Rattle.frame.proofs.Sums.{body-small}
use Rattle.frame.proofs.writing.whole_line.Goals.{After-body-n, After-last_bit}
use Rattle.frame.proofs.writing.whole_line.Goals as goal

-- the word leaves room for its parity bit
room : (c : After-body-n) → c.body-n.result < 2 ^ 63 + 2 ^ 62
room c =
    rw c.body-n.ensures (body-small c.args.settings c.args.address c.args.reading c.requires)

-- which is small, in either length
last-small : (short : Bool) → put 1 (pick short 40 56) ≤ 2 ^ 24
last-small true = omega arith
last-small false = omega arith

small : (c : After-last_bit) → c.parity_bit.result * c.last_bit.result ≤ 2 ^ 24
small c =
    let last = c.last_bit.result in
    le_trans (mul-le-mul_right last c.parity_bit.ensures.1)
    (rw (one-mul last, c.last_bit.ensures) (last-small c.is_absent-short.result))

pub overflow_add-result : goal.overflow_add-result
overflow_add-result c = omega (arith, small c, room (goal.at.overflow_add-result c).After-body-n)

pub returns : goal.returns
unfolding reply_line
returns c =
    let a = c.args in
    let n = body_of a.settings a.address a.reading in
    rw (c.parity_bit.ensures.0, c.last_bit.ensures, c.is_absent-short.ensures, c.body-n.ensures)
    (ap (λ (k : ℕ). n + parity_for a.settings (first_bytes (size_for a.reading) n) * k) (one-mul (2 ^ (64 - count_for a.reading))))
