-- Document 01, the program "list": the lines that show a sheet.
use Rattle.std.specs.Prelude.{Bool, List, [], ◌++◌, ℕ, zero, suc, eqb, length}
use Rattle.frame.specs.declared.Reading.{Reading}
use Rattle.frame.specs.declared.Temperature.{Temperature}
use Rattle.frame.specs.declared.Temperature.TheVariants.{Degrees, Above, Below, Absent}
use Rattle.frame.specs.Pick.{pick}
use Rattle.frame.specs.Line.{mark}
use Rattle.frame.specs.Temperature.{is_plus, magnitude}
use Rattle.frame.specs.Reply.{reply_of}
use Rattle.sheet.specs.Record.{Entry}
use Rattle.sheet.specs.Slots.{Slot, blank, spoiled, foreign, holds, size_allowed, slots, slot_at, slot_of, list_of}
use Rattle.listing.specs.Text.{ascii, in_decimal}
use Rattle.std.specs.Prelude.{Result, Ok, Err}
use Rattle.frame.specs.declared.faults.Fault.{Fault}
use Rattle.frame.specs.Faults.{number_of, place_named}

-- The first line counts slots.
unfoldable pub head_line : List ℕ → List ℕ
head_line s = ascii "sheet " ++ in_decimal (slots s) ++ ascii "\n"

-- Degrees in tenths, "above", "below", and "-" where it is absent.
abbrev pub temperature_text : Temperature → List ℕ
temperature_text (Degrees d) = pick (is_plus d) [] (ascii "-") ++ in_decimal (magnitude d)
temperature_text Above = ascii "above"
temperature_text Below = ascii "below"
temperature_text Absent = ascii "-"

abbrev pub alarm_text : Bool → List ℕ
alarm_text on = in_decimal (mark on)

-- Level in the mode's unit, temperature, alarm 1, alarm 0.
unfoldable pub reading_text : Reading → List ℕ
reading_text r =
    in_decimal r.level ++ ascii " " ++ temperature_text r.temperature ++ ascii " "
    ++ alarm_text r.alarm1 ++ ascii " " ++ alarm_text r.alarm0

-- A faulty reply ends after the address with "fault" and its number; document 02, request 02: after 7 stands the place of the unreadable
-- digit.
abbrev pub reply_text : Result Reading Fault → List ℕ
reply_text (Ok r) = reading_text r
reply_text (Err f) =
    pick (eqb (number_of f) 7) (ascii "fault 7 " ++ in_decimal (place_named f)) (ascii "fault " ++ in_decimal (number_of f))

-- Minute, address, and what the reply reads as.
unfoldable pub record_text : Entry → List ℕ
record_text e =
    in_decimal e.minute ++ ascii " " ++ in_decimal e.address ++ ascii " "
    ++ reply_text (reply_of e.settings e.address e.count e.reply)

-- Each slot not blank has a line, which begins with the slot, counted from 0.
abbrev pub listed_line : ℕ → Slot → List ℕ
listed_line k blank = []
listed_line k spoiled = in_decimal k ++ ascii " spoiled\n"
listed_line k foreign = in_decimal k ++ ascii " foreign\n"
listed_line k (holds e) = in_decimal k ++ ascii " " ++ record_text e ++ ascii "\n"

abbrev pub slot_line : List ℕ → ℕ → List ℕ
slot_line s k = listed_line k (slot_of (slot_at s k))

-- The lines of the first k slots, in slot order.
unfoldable pub lines_up_to : List ℕ → ℕ → List ℕ
lines_up_to s zero = []
lines_up_to s (suc k) = lines_up_to s k ++ slot_line s k

-- The last line counts the records, faulty replies included.
unfoldable pub count_line : ℕ → List ℕ
count_line n = ascii "records " ++ in_decimal n ++ ascii "\n"

abbrev pub last_line : List ℕ → List ℕ
last_line s = count_line (length (list_of s))

-- The listing of a sheet; a bad size prints only "fault 12".
unfoldable pub listing_of : List ℕ → List ℕ
listing_of s = pick (size_allowed s) (head_line s ++ lines_up_to s (slots s) ++ last_line s) (ascii "fault 12\n")
