-- `lines::runs::word` meets its contract: after so many turns the number has the bytes passed for digits, so that one more always fits. Assumes nothing.
use mathlib.Core.Path.{◌≡◌}
use Prim.Native.Nat.{ℕ, ◌≤◌, ◌<◌, ◌*◌, ◌%◌, ◌^◌}
use native.Mathlib.Nat.{pow-le-pow_right}
use native.Mathlib.Omega.{arith}
use borrow.Author.Rules.{rules}
use lib.Dec.{lit<}
use Rattle.lines.proofs.Words.{digits_more}
use Rattle.lines.proofs.runs.word.Goals as goal

-- with a byte left to read, fewer than 8 were read
room : (n i : ℕ) → i < 8 → n < 256 ^ i → n < 2 ^ 56
room n i h l =
    let few : i ≤ 7 = omega arith in
    let wider : 256 ^ i ≤ 256 ^ 7 = pow-le-pow_right (lit< tt) few in
    omega arith

pub loop-x-preserved : goal.loop-x-preserved
loop-x-preserved c =
    let l = c.loop-x in
    let small : l.n < 2 ^ 56 = room l.n l.x-index (omega arith) l.invariant.below in
    let shifted : l.n * 256 % 2 ^ 64 ≡ l.n * 256 = omega arith in
    rw shifted (digits_more c.args.eight.now l.x-index l.n c.from.result l.invariant c.from.ensures (search rules))
