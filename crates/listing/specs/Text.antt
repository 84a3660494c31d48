-- Text as bytes: words in ASCII, and numbers in decimal.
use Rattle.std.specs.Prelude.{List, ◌++◌, ℕ, zero, suc, ◌/◌, ◌%◌, ltb}
use mathlib.Core.List as list
use Prim.Native.Char.{code}
use Prim.Native.String.{String, [], ◌∷◌}
use Rattle.frame.specs.Pick.{pick}
use Rattle.putting.specs.Digit.{digit}

-- The bytes of a word.
abbrev pub ascii : String → List ℕ
ascii [] = list.[]
ascii (c ∷ cs) = list.◌∷◌ (code c) (ascii cs)

-- The last decimal digits of a number, at most so many, and no zero before them.
unfoldable pub digits_up_to : ℕ → ℕ → List ℕ
digits_up_to zero n = list.[]
digits_up_to (suc most) n = pick (ltb n 10) (list.◌∷◌ (digit n) list.[]) (digits_up_to most (n / 10) ++ list.◌∷◌ (digit (n % 10)) list.[])

-- A number in decimal. The largest that a sheet can hold is the minute 4,294,967,295: ten digits.
abbrev pub in_decimal : ℕ → List ℕ
in_decimal n = digits_up_to 10 n
