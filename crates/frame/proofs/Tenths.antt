-- A temperature as a number of tenths: above and below are numbers beyond either range, and written as such. Assumes nothing.
use mathlib.Core.Path.{◌≡◌, refl}
use mathlib.Core.Bool.{Bool, true, false}
use Prim.Native.Nat.{ℕ}
use native.Mathlib.Omega.{arith}
use Rattle.frame.specs.declared.Temperature.{Temperature}
use Rattle.frame.specs.declared.Temperature.TheVariants.{Degrees, Above, Below, Absent}
use Rattle.frame.specs.Temperature.{is_absent, put_heat, put_heat_1800, put_heat_1900, put_degrees_1800}
use Rattle.frame.specs.Inside.Written.{tenths_for, put_tenths}

-- the bits of any temperature that is not absent are those of its number
pub heat-is : (is1800 : Bool) (t : Temperature) → is_absent t ≡ false → put_tenths is1800 (tenths_for t) ≡ put_heat is1800 t
unfolding put_heat_1800 put_heat_1900 put_degrees_1800
heat-is true (Degrees d) e = refl
heat-is false (Degrees d) e = refl
heat-is true Above e = refl
heat-is false Above e = refl
heat-is true Below e = refl
heat-is false Below e = refl
heat-is b Absent e = let z : ◌≡◌ {A = ℕ} 0 1 = cc in absurd (omega arith)
