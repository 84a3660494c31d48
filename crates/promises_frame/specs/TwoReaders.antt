-- Document 02, request 07: the reader that takes two digits at a time from a table reads what the plain one reads.
use Rattle.std.specs.Prelude.{◌≡◌, Bool, List, ℕ, ◌+◌, ◌*◌, ◌/◌, ◌%◌, ◌<◌, ◌≤◌}
use Rattle.frame.specs.Charts.{decimal, is_odd, code_of}
use Rattle.frame.specs.Level.{mode_of, read_row, level_of}
use Rattle.frame.specs.Pairs.{no_pair, table_entry, index_of, decimals, read_pairs, second_level, ReadsReplyByPairs}
use Rattle.frame.specs.Reply.{ReadsReply}
use Rattle.std.specs.Prelude.{Result}
use Rattle.frame.specs.declared.faults.Fault.{Fault}
use Rattle.frame.specs.declared.Reading.{Reading}

pub record TwoReaders : Type 0 where
  -- The table, by the chart alone: the codes of any two digits, the digit above them odd or not, have the number that the digits write.
  pub table-reads : (odd : Bool) (x y : ℕ) → x ≤ 9 → y ≤ 9
      → table_entry (index_of odd (code_of odd decimal x) (code_of (is_odd x) decimal y)) ≡ 10 * x + y
  -- Every other pair of codes is marked: an entry that is no mark is a number up to 99, and the codes are those of its two digits.
  pub table-marks : (odd : Bool) (a b : ℕ) → a < 16 → b < 16 → ¬ (table_entry (index_of odd a b) ≡ no_pair)
      → (table_entry (index_of odd a b) ≤ 99)
      × ((code_of odd decimal (table_entry (index_of odd a b) / 10) ≡ a)
      × (code_of (is_odd (table_entry (index_of odd a b) / 10)) decimal (table_entry (index_of odd a b) % 10) ≡ b))
  -- Pairs are digits: so many pairs read by the table are twice as many decimal digits read one by one, whatever stands above them, the place
  -- of the first digit in no chart too.
  pub pairs : (k bits : ℕ) (odd : Bool) (sofar place : ℕ) → read_pairs k bits odd sofar place ≡ read_row (decimals (2 * k)) bits odd sofar place
  -- So of any line, in every mode, both readers give the same level, or the same place,
  pub levels : (mode n : ℕ) → second_level mode n ≡ level_of (mode_of mode) n
  -- and of any bytes, at any settings, address and count, the two calls give one answer: the reading, or the refusal with its place.
  pub calls : (settings address count : ℕ) (s : List ℕ) (plain second : Result Reading Fault)
      → ReadsReply settings address count s plain → ReadsReplyByPairs settings address count s second → plain ≡ second
