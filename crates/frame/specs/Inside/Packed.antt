-- How the code keeps charts, rows and answers in words. A reader of document 01 need not believe this file: it says what the tables of
-- `src/charts.rt` hold, each worked out from the charts themselves, and what the inner functions answer.
use Rattle.std.specs.Prelude.{◌≡◌, ◌≤◌, Bool, not, ◌&&◌, List, [], ◌∷◌, map, ℕ, zero, suc, ◌+◌, ◌*◌, ◌/◌, ◌%◌, ◌^◌, ◌<◌, eqb, ltb, leb, drop, Option, Some, None}
use Rattle.frame.specs.Pick.{pick}
use Rattle.frame.specs.Line.{line, bit, formed, three_decimal, three_digits}
use Rattle.frame.specs.Faults.{first_of, fault}
use Rattle.frame.specs.Reply.{mode_in, parity_right, reply_tests, heat_in, reading_at, refused_by}
use Rattle.frame.specs.Charts.{Chart, one_bit, two_bits, feet_tens, decimal, inches, sixteenths, place_in, size_of, is_odd, turned, code_of}
use Rattle.frame.specs.declared.Temperature.{Temperature}
use Rattle.frame.specs.declared.line.Lent.{Lent}
use Rattle.frame.specs.declared.line.Lent.TheVariants.{Five, Seven}
use Rattle.frame.specs.Temperature.{Heat, told, bad, is_bad, temperature_of}
use Rattle.frame.specs.Level.{Level, known, lost, Mode, mode_of, level_of, fill_clear}
use Rattle.frame.specs.Pairs.{second_level}
use Rattle.std.specs.Prelude.{Result, Ok, Err}
use Rattle.frame.specs.declared.faults.Fault.{Fault}
use Rattle.frame.specs.declared.faults.Fault.TheVariants.{InNoChart}
use Rattle.frame.specs.declared.Reading.{Reading}

-- The chart of a number: 0 one bit, 1 two bits, 2 feet tens, 3 decimal, 4 inches, any other sixteenths.
unfoldable pub chart_of : ℕ → Chart
chart_of k =
    pick (eqb k 0) one_bit
    (pick (eqb k 1) two_bits (pick (eqb k 2) feet_tens (pick (eqb k 3) decimal (pick (eqb k 4) inches sixteenths))))

-- Numbers below 16 in one word, four bits each, the first lowest.
unfoldable pub nibbles : List ℕ → ℕ
nibbles [] = 0
nibbles (x ∷ xs) = x + 16 * nibbles xs

-- For each code from 0 to 15 its place in the chart, or the chart's size where it is in no place.
unfoldable pub places_of : Chart → ℕ
unfolding nibbles
places_of c =
    nibbles
    (map (λ code. place_in code c.codes) (0 ∷ 1 ∷ 2 ∷ 3 ∷ 4 ∷ 5 ∷ 6 ∷ 7 ∷ 8 ∷ 9 ∷ 10 ∷ 11 ∷ 12 ∷ 13 ∷ 14 ∷ 15 ∷ []))

-- A digit read in four bits: the digit, or 16 for a code in no chart.
unfoldable pub digit_of : Chart → ℕ → Bool → ℕ
digit_of c code odd =
    let at = place_in code c.codes in
    pick (ltb at (size_of c)) (turned odd (size_of c) at) 16

-- A row of `left` digits, the number of each digit's chart in four bits, the top digit's lowest; every digit is read in four bits.
unfoldable pub digit_row : ℕ → ℕ → List Chart
digit_row row zero = []
digit_row row (suc left) = record { width = 4; codes = (chart_of (row % 16)).codes } ∷ digit_row (row / 16) left

-- What the digit reader gives: the level, or 2 ^ 32 and the place of the first digit in no chart.
abbrev pub read_code : Level → ℕ
read_code (known v) = v
read_code (lost k) = 2 ^ 32 + k

-- A level that was read is below a bound.
abbrev pub Below : ℕ → Level → Type 0
Below b (known v) = v < b
Below b (lost k) = Unit {0}

-- The digits of a level written from the ones digit up, in four bits each, by the word of their charts. The digit above is odd exactly if all
-- that stands above is odd, because every chart has an even number of values; above the first digit stands the starting state.
unfoldable pub write_up : ℕ → ℕ → Bool → ℕ → ℕ
write_up row zero start v = 0
write_up row (suc left) start v =
    let c = chart_of (row / 16 ^ left % 16) in
    code_of (pick (eqb left 0) start (is_odd (v / size_of c))) c (v % size_of c) + 16 * write_up row left start (v / size_of c)

-- The code of a level's ones digit, where another digit stands above it, and of its last three decimal digits.
abbrev pub ones_code : Chart → ℕ → ℕ
ones_code c v = code_of (is_odd (v / size_of c)) c (v % size_of c)

abbrev pub three_up : ℕ → ℕ
three_up v = ones_code decimal v + 16 * ones_code decimal (v / 10) + 256 * ones_code decimal (v / 100)

-- What reading a level gives: the level, or 2 ^ 16 times the fault, to which 7 adds the place of the digit.
abbrev pub level_number : ℕ → Level → ℕ
level_number largest (known v) = pick (ltb largest v) (8 * 2 ^ 16) v
level_number largest (lost k) = 7 * 2 ^ 16 + k

unfoldable pub level_code : Mode → ℕ → ℕ
level_code m n = pick (fill_clear n m.fill) (level_number m.largest (level_of m n)) (6 * 2 ^ 16)

-- The same as the second reader takes the mode of a number.
unfoldable pub second_code : ℕ → ℕ → ℕ
second_code k n = pick (fill_clear n (mode_of k).fill) (level_number (mode_of k).largest (second_level k n)) (6 * 2 ^ 16)

-- The bytes of a reply that has the length of one.
abbrev pub bytes_in : Lent → List ℕ
bytes_in (Five s) = s.now
bytes_in (Seven s) = s.now

-- Three decimal digits whose last bit stands `shift` bits above the word's lowest: their number, or none where one is above 9.
unfoldable pub three_by : ℕ → ℕ → Option ℕ
three_by n shift =
    let hundreds = n / 2 ^ (shift + 8) % 16 in
    let tens = n / 2 ^ (shift + 4) % 16 in
    let units = n / 2 ^ shift % 16 in
    pick (leb hundreds 9 && leb tens 9 && leb units 9) (Some (hundreds * 100 + tens * 10 + units)) None

-- A number up to 999 as three digits of four bits.
abbrev pub three_of : ℕ → ℕ
three_of v = v / 100 * 256 + v / 10 % 10 * 16 + v % 10

-- What the code's answer for a temperature means.
abbrev pub heat_for : Option Temperature → Heat
heat_for (Some t) = told t
heat_for None = bad

-- The refusal of a reply by form or length, 0 for none.
unfoldable pub form_fault : ℕ → List ℕ → ℕ
form_fault count s =
    pick (not (formed count s)) 14 (pick (eqb count 0) 1 (pick (not (eqb count 40) && not (eqb count 56)) 2 0))

-- The first refusal before a reply's bits are looked at, 0 for none: the first five tests.
abbrev pub unread_fault : ℕ → ℕ → ℕ → List ℕ → ℕ
unread_fault settings address count s = pick (ltb 15 settings) 10 (pick (ltb 999 address) 11 (form_fault count s))

-- The bytes that a reply has where nothing of its form and length is refused, and where nothing is refused before its bits are looked at.
pub record IsSized (count : ℕ) (s : List ℕ) (lent : Lent) : Type 0 where
  pub bytes : bytes_in lent ≡ s
  pub sized : form_fault count s ≡ 0

pub record IsLent (settings address count : ℕ) (s : List ℕ) (lent : Lent) : Type 0 where
  pub bytes : bytes_in lent ≡ s
  pub small : address ≤ 999
  pub read : unread_fault settings address count s ≡ 0

-- The first refusal of a reply before its level, 0 for none: 3, 4 and 5; n is its line.
abbrev pub unfit_fault : ℕ → ℕ → ℕ → List ℕ → ℕ
unfit_fault settings address n s =
    pick (eqb (bit n 1) 0) 3 (pick (not (three_decimal n 4 && eqb (three_digits n 4) address)) 4 (pick (not (parity_right settings s)) 5 0))

-- What is left to test of a reply of the right form and length, all but the first five tests: faults 3 to 9, and what it answers.
unfoldable pub line_fault : ℕ → ℕ → ℕ → List ℕ → ℕ
unfolding first_of
line_fault settings address count s = first_of (drop 5 (reply_tests settings address count s))

unfoldable pub line_reply : ℕ → ℕ → ℕ → List ℕ → Result Reading Fault
line_reply settings address count s =
    pick (eqb (line_fault settings address count s) 0) (Ok (reading_at settings count (line s)))
    (Err (refused_by (level_of (mode_in settings) (line s)) (line_fault settings address count s)))

-- The refusal that the number of a level stands for, where it is 2 ^ 16 or more.
abbrev pub level_refused : ℕ → Fault
level_refused code = pick (eqb (code / 2 ^ 16) 7) (InNoChart (code % 2 ^ 16)) (fault (code / 2 ^ 16))

-- And once its level is read too: fault 9, or the reading.
unfoldable pub heat_reply : ℕ → ℕ → ℕ → ℕ → Result Reading Fault
heat_reply settings count n level =
    pick (is_bad (heat_in settings count n)) (Err (fault 9))
    (Ok (record { level = level; temperature = temperature_of (heat_in settings count n); alarm1 = eqb (bit n 38) 1; alarm0 = eqb (bit n 39) 1 }))

-- The answer by the number of a level.
abbrev pub levelled_reply : ℕ → ℕ → ℕ → ℕ → Result Reading Fault
levelled_reply settings count n code = pick (ltb code (2 ^ 16)) (heat_reply settings count n code) (Err (level_refused code))
