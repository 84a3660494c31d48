-- The version by which a host sees that its header and the archive belong together: the header's SISAL_VERSION.
use Rattle.std.specs.Prelude.{◌≡◌, ℕ}

abbrev pub version : ℕ
version = 8

pub record SisalVersion (answer : ℕ) : Type 0 where
  pub answers : answer ≡ version
