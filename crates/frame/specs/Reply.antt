-- Document 01, the reply: bit 1 start, 2-3 unused, address digits from bit 4, level at 16-37, alarm 1 at 38, alarm 0 at 39,
-- temperature at 40-55 of 56 bits, parity last.
use Rattle.std.specs.Prelude.{◌≡◌, Result, Ok, Err, Bool, not, ◌&&◌, List, [], ◌∷◌, ◌++◌, ℕ, ◌+◌, ◌/◌, ◌%◌, eqb, ltb, length, drop}
use Rattle.frame.specs.declared.Reading.{Reading}
use Rattle.frame.specs.declared.faults.Fault.{Fault}
use Rattle.frame.specs.declared.faults.Fault.TheVariants.{InNoChart}
use Rattle.frame.specs.declared.Temperature.TheVariants.{Absent}
use Rattle.frame.specs.Pick.{pick}
use Rattle.frame.specs.Line.{line, bit, put, mark, formed, marks, first_bytes, three_digits, three_decimal, put_three}
use Rattle.frame.specs.Level.{Mode, Level, mode_of, level_of, fill_clear, no_chart, value_of, place_lost, above_largest, put_level}
use Rattle.frame.specs.Temperature.{Heat, told, heat_of, is_bad, temperature_of, is_absent, put_heat}
use Rattle.frame.specs.Faults.{Test, ◌gives◌, first_of, number_of, fault, verdict}

-- Settings: mode in bits 0-1, bit 2 set for 1800, bit 3 set for odd parity, the rest 0.
abbrev pub mode_in : ℕ → Mode
mode_in settings = mode_of (settings % 4)

abbrev pub is1800 : ℕ → Bool
is1800 settings = eqb (settings / 4 % 2) 1

abbrev pub odd_parity : ℕ → ℕ
odd_parity settings = settings / 8 % 2

-- The temperature of a reply: absent in 40 bits.
abbrev pub heat_in : ℕ → ℕ → ℕ → Heat
heat_in settings count n = pick (eqb count 40) (told Absent) (heat_of (is1800 settings) n)

-- Parity covers the whole reply, parity bit included: its marks are even in number, or odd, by setting.
abbrev pub parity_right : ℕ → List ℕ → Bool
parity_right settings s = eqb (marks s % 2) (odd_parity settings)

-- Reading a reply, by what its level bits read as: 10, 11, 14, then 1 to 9 upward.
abbrev pub reply_tests_with : Level → ℕ → ℕ → ℕ → List ℕ → List Test
reply_tests_with level settings address count s =
    let n = line s in
    let m = mode_in settings in
    ltb 15 settings gives 10
    ∷ ltb 999 address gives 11
    ∷ not (formed count s) gives 14
    ∷ eqb count 0 gives 1
    ∷ (not (eqb count 40) && not (eqb count 56)) gives 2
    ∷ eqb (bit n 1) 0 gives 3
    ∷ not (three_decimal n 4 && eqb (three_digits n 4) address) gives 4
    ∷ not (parity_right settings s) gives 5
    ∷ not (fill_clear n m.fill) gives 6
    ∷ no_chart level gives 7
    ∷ above_largest m level gives 8
    ∷ is_bad (heat_in settings count n) gives 9
    ∷ []

abbrev pub level_in : ℕ → ℕ → Level
level_in settings n = level_of (mode_in settings) n

abbrev pub reply_tests : ℕ → ℕ → ℕ → List ℕ → List Test
reply_tests settings address count s = reply_tests_with (level_in settings (line s)) settings address count s

unfoldable pub reply_fault : ℕ → ℕ → ℕ → List ℕ → ℕ
unfolding first_of
reply_fault settings address count s = first_of (reply_tests settings address count s)

abbrev pub reading_with : Level → ℕ → ℕ → ℕ → Reading
reading_with level settings count n =
    record {
      level = value_of level;
      temperature = temperature_of (heat_in settings count n);
      alarm1 = eqb (bit n 38) 1;
      alarm0 = eqb (bit n 39) 1;
    }

abbrev pub reading_at : ℕ → ℕ → ℕ → Reading
reading_at settings count n = reading_with (level_in settings n) settings count n

-- Document 02, request 02: fault 7 names the place of the first digit in no chart, counted from 0 at the top. No other fault carries a place.
abbrev pub refused_by : Level → ℕ → Fault
refused_by level n = pick (eqb n 7) (InNoChart (place_lost level)) (fault n)

unfoldable pub reply_of : ℕ → ℕ → ℕ → List ℕ → Result Reading Fault
reply_of settings address count s =
    pick (eqb (reply_fault settings address count s) 0) (Ok (reading_at settings count (line s)))
    (Err (refused_by (level_of (mode_in settings) (line s)) (reply_fault settings address count s)))

-- What `read_reply` answers.
pub record ReadsReply (settings address count : ℕ) (reply : List ℕ) (answer : Result Reading Fault) : Type 0 where
  pub answers : answer ≡ reply_of settings address count reply

-- A reading whose temperature is absent takes 40 bits in 5 bytes, any other 56 bits in 7.
abbrev pub count_for : Reading → ℕ
count_for r = pick (is_absent r.temperature) 40 56

abbrev pub size_for : Reading → ℕ
size_for r = pick (is_absent r.temperature) 5 7

-- A reply without its parity bit; unused bits are 0.
unfoldable pub body_of : ℕ → ℕ → Reading → ℕ
body_of settings address r =
    put 1 1 + put_three address 4 + put_level (mode_in settings) r.level + put (mark r.alarm1) 38
    + put (mark r.alarm0) 39
    + put_heat (is1800 settings) r.temperature

-- The parity bit makes the marks even in number, or odd, by setting.
abbrev pub parity_for : ℕ → List ℕ → ℕ
parity_for settings body = (marks body + odd_parity settings) % 2

unfoldable pub reply_line : ℕ → ℕ → Reading → ℕ
unfolding body_of
reply_line settings address r =
    let body = body_of settings address r in
    body + put (parity_for settings (first_bytes (size_for r) body)) (count_for r)

-- Writing a reply: 10, 11, 15.
unfoldable pub write_reply_fault : ℕ → ℕ → Reading → List ℕ → ℕ
unfolding first_of
write_reply_fault settings address r out =
    first_of (ltb 15 settings gives 10 ∷ ltb 999 address gives 11 ∷ ltb (length out) (size_for r) gives 15 ∷ [])

-- What `write_reply` answers, and the output after it: only the first 5 or 7 bytes change, and none where it refuses.
pub record WritesReply (settings address : ℕ) (r : Reading) (out : List ℕ) (answer : Result ℕ Fault) (after : List ℕ) : Type 0 where
  pub answers : answer ≡ verdict (write_reply_fault settings address r out) (size_for r)
  pub leaves : after ≡ pick (eqb (write_reply_fault settings address r out) 0)
      (first_bytes (size_for r) (reply_line settings address r) ++ drop (size_for r) out) out

-- The paper's number of the answer, 0 where nothing is refused.
abbrev pub reply_number : Result Reading Fault → ℕ
reply_number (Ok r) = 0
reply_number (Err f) = number_of f
