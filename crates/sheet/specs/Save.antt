-- Document 01, "The month sheet" and "Fault numbers": what a save answers, and the sheet after it.
use Rattle.std.specs.Prelude.{◌≡◌, Result, Ok, Err, not, List, [], ◌∷◌, ◌++◌, ℕ, ◌+◌, min, eqb, leb}
use Rattle.frame.specs.Pick.{pick}
use Rattle.frame.specs.declared.faults.Fault.{Fault}
use Rattle.frame.specs.Faults.{◌gives◌, first_of, number_of, verdict}
use Rattle.sheet.specs.Record.{Entry, checks, length_of}
use Rattle.sheet.specs.Slots.{size_allowed, slots, next}
use Rattle.sheet.specs.Stores.{after}

-- Saving into a slot: 12, then the record's checks 10, 11, 14, then 13 where the sheet has no such slot.
unfoldable pub into_fault : List ℕ → ℕ → Entry → ℕ
into_fault s slot e = first_of (not (size_allowed s) gives 12 ∷ checks e ++ leb (slots s) slot gives 13 ∷ [])

-- Saving: into the next slot, so 13 where none is left.
unfoldable pub save_fault : List ℕ → Entry → ℕ
unfolding into_fault
save_fault s e = into_fault s (next s) e

-- What `save` answers, and the sheet after it: the stores made, the smaller of the allowance and length plus 2, and exactly those; or the
-- refusal's number, and the sheet as it was.
pub record Saves (sheet : List ℕ) (e : Entry) (allowance : ℕ) (answer : Result ℕ Fault) (left : List ℕ) : Type 0 where
  pub answers : answer ≡ verdict (save_fault sheet e) (min allowance (length_of e + 2))
  pub leaves : left ≡ pick (eqb (save_fault sheet e) 0) (after sheet e allowance) sheet

-- The paper's number of an answer, 0 where nothing is refused, and the stores made.
abbrev pub saved_number : Result ℕ Fault → ℕ
saved_number (Ok n) = 0
saved_number (Err f) = number_of f

abbrev pub stores_made : Result ℕ Fault → ℕ
stores_made (Ok n) = n
stores_made (Err f) = 0
