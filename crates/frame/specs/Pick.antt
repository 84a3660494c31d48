-- A choice by a test, and the test of a range.
use Rattle.std.specs.Prelude.{Bool, true, false, ◌&&◌, ℕ, leb}

-- the first where the test holds, else the second
abbrev pub pick {ℓ} : {A : Type ℓ} → Bool → A → A → A
pick true a b = a
pick false a b = b

-- from the first to the second, both ends too
abbrev pub within : (low high n : ℕ) → Bool
within low high n = leb low n && leb n high
