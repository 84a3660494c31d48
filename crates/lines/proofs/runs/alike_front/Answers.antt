-- `lines::runs::alike_front` meets its contract: above the first bit that differs the two words agree, and so do the bytes there. Assumes nothing.
use mathlib.Core.Path.{◌≡◌}
use mathlib.Core.List.{List}
use Prim.Native.Nat.{ℕ, ◌≤◌, ◌<◌, ◌-◌, ◌*◌, ◌/◌, ◌^◌}
use native.Mathlib.Omega.{arith}
use lib.Bits.{bit_xor, xor_lt}
use lib.Count.{count_leading_zeros, leading_le, leading_length}
use Rattle.lines.specs.Inside.Runs.{Digits, Alike}
use Rattle.lines.proofs.Words.{agree-front}
use Rattle.lines.proofs.runs.alike_front.Goals as goal

-- as many bytes as leading zeros make are alike
front : (row : List ℕ) (a x : ℕ) → Digits row 8 a → x < 256
    → (count_leading_zeros 64 (bit_xor a (x * 0x0101010101010101)) / 8 ≤ 8) × Alike row 0 (count_leading_zeros 64 (bit_xor a (x * 0x0101010101010101)) / 8) x
front row a x d byte =
    let w = bit_xor a (x * 0x0101010101010101) in
    let z = count_leading_zeros 64 w in
    let small : a < 2 ^ 64 = d.below in
    let long = leading_length 64 w (xor_lt 64 a (x * 0x0101010101010101) small (omega arith)) in
    let most : z ≤ 64 = leading_le 64 w in
    let rest : long.0 ≡ 64 - z = omega (arith, long.1) in
    let agree : w < 2 ^ (64 - z) = rw rest at long.2 in
    (omega arith, λ k h l. agree-front row a x z d byte agree k (omega arith) most)

pub returns : goal.returns
returns c = rw c.from.ensures (front c.args.eight.now c.word.result c.args.sample c.word.ensures c.ranges.sample.fits)
