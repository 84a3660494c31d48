-- How the code names a profile: an option of two kinds.
use Rattle.std.specs.Prelude.{Option, None, Some}
use Rattle.board.specs.declared.gauge.Profile.{Profile as Kind}
use Rattle.board.specs.declared.gauge.Profile.TheVariants.{Copper, Platinum}
use Rattle.board.specs.Gauge.{Profile, no_profile, copper, platinum}

-- The profile that is meant.
abbrev pub profile_by : Option Kind → Profile
profile_by None = no_profile
profile_by (Some Copper) = copper
profile_by (Some Platinum) = platinum
