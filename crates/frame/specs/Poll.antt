-- Document 01, the poll: bit 1 start, 2 unused, 3 raise, 4 reset, then three digits of the address from bit 5.
use Rattle.std.specs.Prelude.{◌≡◌, Result, Ok, Err, Bool, not, List, [], ◌∷◌, ◌++◌, ℕ, ◌+◌, eqb, ltb, length, drop}
use Rattle.frame.specs.declared.Poll.{Poll}
use Rattle.frame.specs.declared.faults.Fault.{Fault}
use Rattle.frame.specs.Pick.{pick}
use Rattle.frame.specs.Line.{line, bit, put, mark, three_digits, three_decimal, put_three, first_bytes}
use Rattle.frame.specs.Faults.{◌gives◌, first_of, number_of, verdict}

-- Reading a poll: 16 where it is not 2 bytes, its start is 0, or a digit is above 9.
unfoldable pub poll_fault : List ℕ → ℕ
unfolding first_of
poll_fault s =
    first_of
    (not (eqb (length s) 2) gives 16 ∷ eqb (bit (line s) 1) 0 gives 16 ∷ not (three_decimal (line s) 5) gives 16 ∷ [])

abbrev pub poll_at : ℕ → Poll
poll_at n = record { address = three_digits n 5; raise = eqb (bit n 3) 1; reset = eqb (bit n 4) 1 }

unfoldable pub poll_of : List ℕ → Result Poll Fault
poll_of s = verdict (poll_fault s) (poll_at (line s))

-- What `read_poll` answers.
pub record ReadsPoll (poll : List ℕ) (answer : Result Poll Fault) : Type 0 where
  pub answers : answer ≡ poll_of poll

-- Writing a poll: 11 an address above 999, 15 an output of fewer than 2 bytes.
unfoldable pub write_poll_fault : ℕ → List ℕ → ℕ
unfolding first_of
write_poll_fault address out = first_of (ltb 999 address gives 11 ∷ ltb (length out) 2 gives 15 ∷ [])

abbrev pub poll_line : ℕ → Bool → Bool → ℕ
poll_line address raise reset = put 1 1 + put (mark raise) 3 + put (mark reset) 4 + put_three address 5

-- What `write_poll` answers, and the output after it: only the first 2 bytes change, and none where it refuses.
pub record WritesPoll (address : ℕ) (raise reset : Bool) (out : List ℕ) (answer : Result ℕ Fault) (after : List ℕ) : Type 0 where
  pub answers : answer ≡ verdict (write_poll_fault address out) 2
  pub leaves : after ≡ pick (eqb (write_poll_fault address out) 0) (first_bytes 2 (poll_line address raise reset) ++ drop 2 out) out

-- The paper's number of each answer, 0 where nothing is refused.
abbrev pub poll_number : Result Poll Fault → ℕ
poll_number (Ok p) = 0
poll_number (Err f) = number_of f

abbrev pub written_number : Result ℕ Fault → ℕ
written_number (Ok k) = 0
written_number (Err f) = number_of f
