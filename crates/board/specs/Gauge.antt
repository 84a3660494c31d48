-- Document 02, request 10: what a row's gauge byte says. Bits 0 and 1 are its sensor profile, bit 2 marks a 6500 servo gauge, and the rest
-- is not read, so that every byte is a gauge.
use Rattle.std.specs.Prelude.{Bool, true, false, not, ◌&&◌, ◌||◌, ℕ, ◌+◌, ◌*◌, ◌/◌, ◌%◌, eqb, ℤ, pos, neg_ℤ}
use Rattle.std.specs.Int.Signed.{lt_z}
use Rattle.frame.specs.declared.Temperature.{Temperature}
use Rattle.frame.specs.declared.Temperature.TheVariants.{Degrees, Above, Below, Absent}
use Rattle.frame.specs.Kinds.{is_set}
use Rattle.frame.specs.Line.{mark}
use Rattle.frame.specs.Pick.{pick}
use Rattle.frame.specs.Reply.{is1800}

-- A row may carry a profile: 100 ohm copper, or DIN platinum.
pub data Profile : Type 0 where
  no_profile : Profile
  copper : Profile
  platinum : Profile

-- 1 is copper, 2 platinum, any other number of two bits no profile.
abbrev pub profile_of : ℕ → Profile
profile_of gauge = pick (eqb (gauge % 4) 1) copper (pick (eqb (gauge % 4) 2) platinum no_profile)

abbrev pub has_profile : Profile → Bool
has_profile no_profile = false
has_profile copper = true
has_profile platinum = true

-- A row may also be marked as a 6500.
abbrev pub is6500 : ℕ → Bool
is6500 gauge = eqb (gauge / 4 % 2) 1

-- Degrees from a lowest to a highest, ends allowed, in tenths.
abbrev pub beyond_ends : ℤ → ℤ → ℤ → Bool
beyond_ends lowest highest d = lt_z d lowest || lt_z highest d

-- Copper from -100 to +400 degrees Fahrenheit, platinum from -234 to +502 (document 000, Table 14).
abbrev pub beyond_profile : Profile → ℤ → Bool
beyond_profile no_profile d = false
beyond_profile copper d = beyond_ends (neg_ℤ (pos 1000)) (pos 4000) d
beyond_profile platinum d = beyond_ends (neg_ℤ (pos 2340)) (pos 5020) d

-- A reply with no temperature is not checked.
abbrev pub outside : Profile → Temperature → Bool
outside bulb (Degrees d) = beyond_profile bulb d
outside bulb Above = false
outside bulb Below = false
outside bulb Absent = false

-- The profile is for type 1900 only: an 1800 row is not checked.
abbrev pub outside_by : (settings gauge : ℕ) → Temperature → Bool
outside_by settings gauge t = not (is1800 settings) && outside (profile_of gauge) t

-- A profile on a type 1800.
abbrev pub profile_misplaced : (settings gauge : ℕ) → Bool
profile_misplaced settings gauge = is1800 settings && has_profile (profile_of gauge)

-- What is told of a gauge byte: its profile as a number, 0 where it has none, and 4 more with the mark.
abbrev pub profile_number : Profile → ℕ
profile_number no_profile = 0
profile_number copper = 1
profile_number platinum = 2

abbrev pub gauge_told : ℕ → ℕ
gauge_told gauge = profile_number (profile_of gauge) + 4 * mark (is6500 gauge)

-- Raise or reset to a row without the mark, and both at once.
abbrev pub unmarked : (gauge raise reset : ℕ) → Bool
unmarked gauge raise reset = not (is6500 gauge) && (is_set raise || is_set reset)

abbrev pub at_once : (raise reset : ℕ) → Bool
at_once raise reset = is_set raise && is_set reset
