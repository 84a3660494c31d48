-- Document 02, request 04: why the decimal chart has the codes that it has.
use Rattle.std.specs.Prelude.{◌≡◌, true, false, ℕ, ◌-◌, ◌/◌, ◌≤◌}
use Rattle.std.specs.Int.Bits.{bit_xor}
use Rattle.frame.specs.Charts.{decimal, code_of}

pub record DecimalChart : Type 0 where
  -- For 0 to 8 the code is the digit combined by exclusive or with half of it, rounded down; 9 alone is 1000.
  pub worked-out : (d : ℕ) → d ≤ 8 → code_of false decimal d ≡ bit_xor d (d / 2)
  pub nine-alone : code_of false decimal 9 ≡ 0b1000
  -- Under an odd digit d takes the code of 9 - d.
  pub under_odd : (d : ℕ) → code_of true decimal d ≡ code_of false decimal (9 - d)
