-- `sheet::bytes::past` meets its contract: all ones, shifted by the count, are the ones that are left. Assumes nothing.
use mathlib.Core.Path.{◌≡◌, refl, ap, ◌∙◌}
use mathlib.Core.Bool.{Bool, true, false}
use Prim.Native.Nat.{ℕ, ◌-◌, ◌/◌, ◌^◌, ◌≤◌}
use native.Mathlib.Omega.{arith}
use borrow.Author.Tests.{ltb-false}
use lib.Dec.{ltb}
use Rattle.std.specs.Bool.{if◌then◌else◌}
use Rattle.sheet.proofs.Ones.{ones-shifted}
use Rattle.sheet.proofs.bytes.past.Goals as goal

shifted : (n : ℕ) → n ≤ 64 → if◌then◌else◌ (ltb n 64) ((2 ^ 64 - 1) / 2 ^ n) 0 ≡ 2 ^ (64 - n) - 1
shifted n h = go (ltb n 64) refl
  where
    go : (b : Bool) → ltb n 64 ≡ b → if◌then◌else◌ b ((2 ^ 64 - 1) / 2 ^ n) 0 ≡ 2 ^ (64 - n) - 1
    go true e = ones-shifted n h
    go false e =
        let all : 64 ≡ n = omega (arith, ltb-false n 64 e) in
        ap (λ (m : ℕ). 2 ^ (64 - m) - 1) all

pub returns : goal.returns
returns c = c.unbounded_shr.ensures ∙ shifted c.args.count c.requires
