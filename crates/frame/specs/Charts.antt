-- Document 01, "Level": the charts of the digits, and how a digit is coded by one.
use Rattle.std.specs.Prelude.{Bool, true, false, List, [], ◌∷◌, ℕ, zero, suc, ◌-◌, ◌%◌, eqb, length, get_or}
use Rattle.frame.specs.Pick.{pick}

-- A digit's chart: its width in bits, and the codes of its values from 0 up.
pub record Chart : Type 0 where
  pub width : ℕ
  pub codes : List ℕ

unfoldable pub one_bit : Chart
one_bit = record { width = 1; codes = 0b0 ∷ 0b1 ∷ [] }

unfoldable pub two_bits : Chart
two_bits = record { width = 2; codes = 0b00 ∷ 0b01 ∷ 0b11 ∷ 0b10 ∷ [] }

unfoldable pub feet_tens : Chart
feet_tens = record { width = 3; codes = 0b000 ∷ 0b001 ∷ 0b011 ∷ 0b010 ∷ 0b110 ∷ 0b111 ∷ 0b101 ∷ 0b100 ∷ [] }

unfoldable pub decimal : Chart
decimal =
    record { width = 4; codes = 0b0000 ∷ 0b0001 ∷ 0b0011 ∷ 0b0010 ∷ 0b0110 ∷ 0b0111 ∷ 0b0101 ∷ 0b0100 ∷ 0b1100 ∷ 0b1000 ∷ [] }

unfoldable pub inches : Chart
inches =
    record {
      width = 4;
      codes =
          0b0000 ∷ 0b0001 ∷ 0b0011 ∷ 0b0010 ∷ 0b0110 ∷ 0b0111 ∷ 0b0101 ∷ 0b0100 ∷ 0b1100 ∷ 0b1101 ∷ 0b1111 ∷ 0b1110 ∷ [];
    }

-- The twelve codes of the inches, then four more.
unfoldable pub sixteenths : Chart
sixteenths =
    record {
      width = 4;
      codes =
          0b0000 ∷ 0b0001 ∷ 0b0011 ∷ 0b0010 ∷ 0b0110 ∷ 0b0111 ∷ 0b0101 ∷ 0b0100 ∷ 0b1100 ∷ 0b1101 ∷ 0b1111 ∷ 0b1110
          ∷ 0b1010 ∷ 0b1011 ∷ 0b1001 ∷ 0b1000 ∷ [];
    }

-- How many values a digit has; its largest digit is one less.
abbrev pub size_of : Chart → ℕ
size_of c = length c.codes

abbrev pub is_odd : ℕ → Bool
is_odd d = eqb (d % 2) 1

-- If the digit just above is odd, the chart is read from its other end: d takes the place of (largest digit minus d).
unfoldable pub turned : Bool → ℕ → ℕ → ℕ
turned true size d = size - 1 - d
turned false size d = d

-- The code of a digit, the digit above being odd or not.
abbrev pub code_of : Bool → Chart → ℕ → ℕ
code_of odd c d = get_or c.codes (turned odd (size_of c) d) 0

-- The place of a code in a chart, counted from 0; the chart's size where the code is in no place.
unfoldable pub place_in : ℕ → List ℕ → ℕ
place_in x [] = zero
place_in x (c ∷ cs) = pick (eqb x c) zero (suc (place_in x cs))
