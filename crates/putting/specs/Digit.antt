-- A decimal digit as a byte.
use Rattle.std.specs.Prelude.{ℕ, ◌+◌}

-- The byte of a digit in ASCII: "0" is 48, 30 hex.
abbrev pub digit : ℕ → ℕ
digit d = 48 + d
