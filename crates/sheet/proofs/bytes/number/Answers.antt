-- `sheet::bytes::number` meets its contract. After i bytes `n` is the number that they write. It is below 256 to the i, so that one
-- byte more always fits. Assumes nothing.
use mathlib.Core.Path.{◌≡◌}
use mathlib.Core.List.{List}
use Prim.Native.Nat.{ℕ, ◌≤◌, ◌<◌, ◌^◌}
use native.Mathlib.Omega.{arith}
use lib.ListN.{length, take, length-take}
use Rattle.sheet.specs.Bytes.{number_in}
use Rattle.sheet.proofs.Numbers.{AreBytes, number_more, number_lt, bytes_take}
use Rattle.sheet.proofs.bytes.number.Goals as goal

-- with a byte left to read, fewer than 8 were read
room : (part : List ℕ) (n i : ℕ) → AreBytes part → length part ≤ 8 → i < length part → n ≡ number_in (take i part) → n < 2 ^ 56
room part n i bytes short more e =
    let below : number_in (take i part) < 256 ^ 7 = number_lt 7 (take i part) (bytes_take i part bytes) (simp length-take (omega arith)) in
    omega arith

pub loop-byte-preserved : goal.loop-byte-preserved
loop-byte-preserved c =
    let a = c.args in
    let l = c.loop-byte in
    let small = room a.part.now l.n l.byte-index (λ i. omega (arith, c.type_inv.part i)) (omega arith) (omega arith) l.invariant in
    let more = number_more a.part.now l.byte-index (omega arith) in
    omega arith
