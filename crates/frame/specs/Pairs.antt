-- Document 02, request 07: levels read two digits at a time, from a table of 512 entries.
use Rattle.std.specs.Prelude.{◌≡◌, Bool, false, ◌&&◌, List, [], ◌∷◌, ℕ, zero, suc, ◌+◌, ◌-◌, ◌*◌, ◌/◌, ◌%◌, ◌^◌, eqb, ltb, length}
use Rattle.frame.specs.Pick.{pick}
use Rattle.frame.specs.Line.{line, field, mark}
use Rattle.frame.specs.Faults.{first_of}
use Rattle.frame.specs.Reply.{reply_tests_with, reading_with, refused_by}
use Rattle.frame.specs.Charts.{Chart, decimal, size_of, is_odd, turned, place_in}
use Rattle.frame.specs.Level.{Level, known, lost, Mode, mode_of, last_bit_of, level_of}
use Rattle.std.specs.Prelude.{Result, Ok, Err}
use Rattle.frame.specs.declared.faults.Fault.{Fault}
use Rattle.frame.specs.declared.Reading.{Reading}

-- The mark for a pair in no chart. Every pair's number is below it.
abbrev pub no_pair : ℕ
no_pair = 255

-- The entry for a pair of decimal codes, the digit above the first one odd (the first digit is turned) or not: the pair's number from 0 to 99, or
-- the mark where one of the codes is in no chart.
unfoldable pub pair_number : Bool → ℕ → ℕ → ℕ
pair_number odd first second =
    let x = place_in first decimal.codes in
    let y = place_in second decimal.codes in
    let d = turned odd (size_of decimal) x in
    let e = turned (is_odd d) (size_of decimal) y in
    pick (ltb x (size_of decimal) && ltb y (size_of decimal)) (10 * d + e) no_pair

-- The table: an entry stands at 256 where the first digit is turned, plus 16 times the first code, plus the second.
abbrev pub table_entry : ℕ → ℕ
table_entry i = pair_number (eqb (i / 256) 1) (i / 16 % 16) (i % 16)

abbrev pub index_of : Bool → ℕ → ℕ → ℕ
index_of odd first second = mark odd * 256 + first * 16 + second

-- So many decimal digits, one below the other.
unfoldable pub decimals : ℕ → List Chart
decimals zero = []
decimals (suc k) = decimal ∷ decimals k

-- The pairs are read from the top, fewer left each time. Where a pair is marked, the table is asked again with 0000 for the second code, which
-- is in the chart from either end: it is marked again exactly if the first code is in no chart.
unfoldable pub read_pairs : ℕ → ℕ → Bool → ℕ → ℕ → Level
read_pairs zero bits odd sofar place = known sofar
read_pairs (suc left) bits odd sofar place =
    let first = bits / 2 ^ (8 * left + 4) % 16 in
    let pair = table_entry (index_of odd first (bits / 2 ^ (8 * left) % 16)) in
    pick (eqb pair no_pair) (lost (pick (eqb (table_entry (index_of odd first 0)) no_pair) place (suc place)))
    (read_pairs left bits (is_odd pair) (sofar * 100 + pair) (suc (suc place)))

-- A row with an odd number of digits has a digit 0000 before them, which is not counted in the place of a digit in no chart.
abbrev pub uncounted : ℕ → Level → Level
uncounted ahead (known v) = known v
uncounted ahead (lost k) = lost (k - ahead)

-- What the level bits of a line read as, two digits at a time.
abbrev pub level_by_pairs : Mode → ℕ → Level
level_by_pairs m n =
    let digits = length m.row in
    uncounted (digits % 2) (read_pairs ((digits + 1) / 2) (field n m.first (last_bit_of m)) false 0 0)

-- Decimal and both metric modes are read so; the fractional one, whose inches and sixteenths have other charts, digit by digit.
abbrev pub second_level : ℕ → ℕ → Level
second_level k n = pick (eqb k 0) (level_of (mode_of k) n) (level_by_pairs (mode_of k) n)

-- The answer of a reply whose level is read so; all else of it is as `reply_of` has it.
unfoldable pub second_reply : ℕ → ℕ → ℕ → List ℕ → Result Reading Fault
unfolding first_of
second_reply settings address count s =
    let level = second_level (settings % 4) (line s) in
    let fault = first_of (reply_tests_with level settings address count s) in
    pick (eqb fault 0) (Ok (reading_with level settings count (line s))) (Err (refused_by level fault))

-- What `read_reply_by_pairs` answers.
pub record ReadsReplyByPairs (settings address count : ℕ) (reply : List ℕ) (answer : Result Reading Fault) : Type 0 where
  pub answers : answer ≡ second_reply settings address count reply
