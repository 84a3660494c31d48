-- What is told of a gauge byte, its profile by number and its mark.
use mathlib.Core.Path.{◌≡◌, refl}
use mathlib.Core.Bool.{Bool, true, false}
use Prim.Native.Nat.{ℕ, ◌+◌, ◌*◌}
use Rattle.frame.specs.Line.{mark}
use Rattle.board.specs.Gauge.{Profile, no_profile, copper, platinum, profile_of, is6500, profile_number, gauge_told}

-- what is told of a gauge byte says the same: its profile and its mark
profile-of : (p : Profile) (m : Bool) → profile_of (profile_number p + 4 * mark m) ≡ p
profile-of no_profile true = refl
profile-of no_profile false = refl
profile-of copper true = refl
profile-of copper false = refl
profile-of platinum true = refl
profile-of platinum false = refl

mark_of : (p : Profile) (m : Bool) → is6500 (profile_number p + 4 * mark m) ≡ m
mark_of no_profile true = refl
mark_of no_profile false = refl
mark_of copper true = refl
mark_of copper false = refl
mark_of platinum true = refl
mark_of platinum false = refl

pub profile-told : (gauge : ℕ) → profile_of (gauge_told gauge) ≡ profile_of gauge
profile-told gauge = profile-of (profile_of gauge) (is6500 gauge)

pub mark-told : (gauge : ℕ) → is6500 (gauge_told gauge) ≡ is6500 gauge
mark-told gauge = mark_of (profile_of gauge) (is6500 gauge)
