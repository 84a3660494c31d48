-- The listing and the list of records that polls are to give, made from what they say and where the saves were cut: no sheet, no slot's bytes and no line is
-- spoken of.
use Rattle.std.specs.Prelude.{Bool, ◌&&◌, List, [], ◌∷◌, ◌++◌, ℕ, suc, ◌+◌, ◌-◌, leb, ltb, length}
use Rattle.frame.specs.Pick.{pick}
use Rattle.sheet.specs.Record.{Entry}
use Rattle.listing.specs.Text.{ascii, in_decimal}
use Rattle.listing.specs.Lines.{reply_text}
use Rattle.promises_wire.specs.Polls.{Poll, poll_entry}
use Rattle.std.specs.Prelude.{Result}
use Rattle.frame.specs.declared.faults.Fault.{Fault}
use Rattle.frame.specs.declared.Reading.{Reading}

-- What a depot knows of a save: the record with its minute, address and bits, what these say, and how many stores the save was given.
pub record KnownSave : Type 0 where
  pub entry : Entry
  pub says : Result Reading Fault
  pub given : ℕ

-- A record has 11 stores besides the reply's bytes: version, settings, 4 of the minute, 2 of the address, the bit count, and 2 of the length.
abbrev pub stores_for : KnownSave → ℕ
stores_for x = length x.entry.reply + 11

abbrev pub uncut : KnownSave → Bool
uncut x = leb (stores_for x) x.given

-- It takes slot k where it makes a store and slot k is there.
abbrev pub takes : (n k : ℕ) → KnownSave → Bool
takes n k x = ltb 0 x.given && ltb k n

-- Its line: slot, minute, address and what the reply says, or "spoiled" where it was cut.
abbrev pub says_text : KnownSave → List ℕ
says_text x = in_decimal x.entry.minute ++ ascii " " ++ in_decimal x.entry.address ++ ascii " " ++ reply_text x.says

abbrev pub expected_line : ℕ → KnownSave → List ℕ
expected_line k x = pick (uncut x) (in_decimal k ++ ascii " " ++ says_text x ++ ascii "\n") (in_decimal k ++ ascii " spoiled\n")

-- The lines from slot k on, of n, and the records that were not cut.
unfoldable pub lines_from : (n k : ℕ) → List KnownSave → List ℕ
lines_from n k [] = []
lines_from n k (x ∷ xs) = pick (takes n k x) (expected_line k x ++ lines_from n (suc k) xs) (lines_from n k xs)

unfoldable pub records_from : (n k : ℕ) → List KnownSave → List Entry
records_from n k [] = []
records_from n k (x ∷ xs) = pick (takes n k x) (pick (uncut x) (x.entry ∷ []) [] ++ records_from n (suc k) xs) (records_from n k xs)

abbrev pub records_for : ℕ → List KnownSave → List Entry
records_for n xs = records_from n 0 xs

-- The first line, the lines, and the last line, on a sheet of n slots.
abbrev pub listing_for : ℕ → List KnownSave → List ℕ
listing_for n xs =
    (ascii "sheet " ++ in_decimal n ++ ascii "\n") ++ lines_from n 0 xs ++ (ascii "records " ++ in_decimal (length (records_for n xs)) ++ ascii "\n")

-- A morning: polls in order, and how many stores the save of their replies was allowed; 0 where they were not saved.
pub record Morning : Type 0 where
  pub polls : List Poll
  pub allowance : ℕ

abbrev pub known_save : ℕ → Poll → KnownSave
known_save given p = record { entry = poll_entry p; says = p.read.says; given = given }

-- Each reply is given the stores that those before it left.
unfoldable pub shared : ℕ → List Poll → List KnownSave
shared given [] = []
shared given (p ∷ ps) = known_save given p ∷ shared (given - stores_for (known_save given p)) ps

unfoldable pub known_in : List Morning → List KnownSave
known_in [] = []
known_in (m ∷ ms) = shared m.allowance m.polls ++ known_in ms
