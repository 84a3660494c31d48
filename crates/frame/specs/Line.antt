-- Document 01, "Bits on the line".
use Rattle.std.specs.Prelude.{Bool, true, false, ◌&&◌, List, [], ◌∷◌, ℕ, ◌+◌, ◌-◌, ◌*◌, ◌/◌, ◌%◌, ◌^◌, eqb, leb, length, get_or, take}
use Rattle.std.specs.Int.Count.{ones}

-- Bit 1 is the highest bit of the first byte: the bytes of a line as one number of 64 bits, the first byte highest, 0 for a byte that is not there.
-- So bit b of every line, short or long, stands at the same place of its number.
unfoldable pub line : List ℕ → ℕ
line s =
    get_or s 0 0 * 2 ^ 56 + get_or s 1 0 * 2 ^ 48 + get_or s 2 0 * 2 ^ 40 + get_or s 3 0 * 2 ^ 32 + get_or s 4 0 * 2 ^ 24
    + get_or s 5 0 * 2 ^ 16
    + get_or s 6 0 * 2 ^ 8
    + get_or s 7 0

-- Bits a to b of a line, as the number that they write, most significant bit first.
abbrev pub field : ℕ → ℕ → ℕ → ℕ
field n a b = n / 2 ^ (64 - b) % 2 ^ (b + 1 - a)

abbrev pub bit : ℕ → ℕ → ℕ
bit n a = field n a a

-- A number written with its last bit at bit b.
abbrev pub put : ℕ → ℕ → ℕ
put v b = v * 2 ^ (64 - b)

-- A mark is 1.
abbrev pub mark : Bool → ℕ
mark true = 1
mark false = 0

-- The first k bytes of a line, k at most 8.
unfoldable pub first_bytes : ℕ → ℕ → List ℕ
first_bytes k n =
    take k
    (field n 1 8 ∷ field n 9 16 ∷ field n 17 24 ∷ field n 25 32 ∷ field n 33 40 ∷ field n 41 48 ∷ field n 49 56 ∷ field n 57 64 ∷ [])

-- A count of bits takes that many bytes: the count divided by 8, rounded up.
abbrev pub bytes_for : ℕ → ℕ
bytes_for count = (count + 7) / 8

-- The pad bits, those after the count in its last byte, are 0. Where the count fills its last byte, no byte stands there and 0 is read.
abbrev pub pad_clear : ℕ → List ℕ → Bool
pad_clear count s = eqb (get_or s (count / 8) 0 % 2 ^ (8 - count % 8)) 0

-- A line is lent in the right form: at most 64 bits, exactly the bytes for its count, and pad bits 0.
unfoldable pub formed : ℕ → List ℕ → Bool
formed count s = leb count 64 && eqb (length s) (bytes_for count) && pad_clear count s

-- The marks of a reply, counted over its bytes.
unfoldable pub marks : List ℕ → ℕ
marks [] = 0
marks (b ∷ bs) = ones b + marks bs

-- Three decimal digits of 4 bits, most significant first, beginning at bit a: the number, and whether each digit is at most 9.
abbrev pub three_digits : ℕ → ℕ → ℕ
three_digits n a = field n a (a + 3) * 100 + field n (a + 4) (a + 7) * 10 + field n (a + 8) (a + 11)

abbrev pub three_decimal : ℕ → ℕ → Bool
three_decimal n a = leb (field n a (a + 3)) 9 && leb (field n (a + 4) (a + 7)) 9 && leb (field n (a + 8) (a + 11)) 9

-- A number up to 999 written as three digits beginning at bit a.
abbrev pub put_three : ℕ → ℕ → ℕ
put_three v a = put (v / 100) (a + 3) + put (v / 10 % 10) (a + 7) + put (v % 10) (a + 11)
