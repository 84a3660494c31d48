-- The decimal chart worked out: the formula is computed over the paper's ten codes.
use mathlib.Core.Path.{◌≡◌, refl, sym}
use mathlib.Core.Bool.{true, false}
use Prim.Native.Nat.{ℕ, ◌-◌, ◌/◌, ◌≤◌}
use native.Mathlib.Omega.{arith}
use lib.Bits.{bit_xor}
use Rattle.frame.specs.Charts.{decimal, code_of, turned}
use Rattle.frame.proofs.DecimalCode.{half-combined, nine-alone}
use Rattle.promises_frame.specs.DecimalChart.{DecimalChart}

straight : (d : ℕ) → d ≤ 8 → code_of false decimal d ≡ bit_xor d (d / 2)
unfolding turned
straight d h = sym (half-combined d (omega arith))

nine : code_of false decimal 9 ≡ 0b1000
unfolding turned
nine = nine-alone

other-end : (d : ℕ) → code_of true decimal d ≡ code_of false decimal (9 - d)
unfolding turned decimal
other-end d = refl

pub decimal-chart : DecimalChart
decimal-chart = record { worked-out = straight; nine-alone = nine; under_odd = other-end }
