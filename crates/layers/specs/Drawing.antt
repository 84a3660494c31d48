-- What a record adds to each layer of its pair's picture: 0 the line of levels, 1 the line of temperatures, 2 the marks of faulty replies, 3 and 4
-- those of alarm 1 and alarm 0, 5 the faulty replies in words. Points stand in minutes and in raw levels.
use Rattle.std.specs.Prelude.{Bool, false, Option, None, Some, List, [], ◌∷◌, ◌++◌, ℕ, ◌+◌, ◌-◌, eqb, ltb}
use Rattle.std.specs.Option.{is_some}
use Rattle.frame.specs.declared.Reading.{Reading}
use Rattle.frame.specs.declared.Temperature.{Temperature}
use Rattle.frame.specs.declared.Temperature.TheVariants.{Degrees, Above, Below, Absent}
use Rattle.frame.specs.Pick.{pick}
use Rattle.frame.specs.Temperature.{is_plus, magnitude}
use Rattle.sheet.specs.Record.{Entry}
use Rattle.summary.specs.Worked.{reply_in}
use Rattle.listing.specs.Text.{ascii}
use Rattle.forms.specs.Form.{fill, choice}
use Rattle.calendar.specs.declared.counting.Day.{Day}
use Rattle.forms.specs.Days.{moment_text}
use Rattle.forms.specs.Words.{fault_text}
use Rattle.std.specs.Prelude.{Result, Ok, Err}
use Rattle.frame.specs.declared.faults.Fault.{Fault}
use Rattle.frame.specs.Faults.{number_of, place_named}

-- What a record has on a line: its level, or its temperature in tenths, 8000 higher so that no sign is needed; or nothing, and the line breaks there.
abbrev pub nothing : Option ℕ
nothing = None

abbrev pub stands : ℕ → Option ℕ
stands n = Some n

abbrev pub heat_value : Temperature → Option ℕ
heat_value (Degrees d) = stands (pick (is_plus d) (8000 + magnitude d) (8000 - magnitude d))
heat_value Above = nothing
heat_value Below = nothing
heat_value Absent = nothing

abbrev pub value_in : ℕ → Result Reading Fault → Option ℕ
value_in layer (Ok r) = pick (eqb layer 0) (stands r.level) (heat_value r.temperature)
value_in layer (Err f) = nothing

-- A point: it begins a line, or the line goes on to it.
unfoldable pub point_text : Bool → ℕ → Option ℕ → List ℕ
point_text joined minute None = []
point_text joined minute (Some y) = fill (choice (pick joined 1 0) (ascii "M~,~h0|L~,~")) (minute ∷ y ∷ [])

-- A mark of an alarm, a minute long so that every printer shows it; that of a fault, which says when it was and what; the same in words, in a list. The
-- day of minute 0 goes along, for moments.
abbrev pub alarm_shown : ℕ → Reading → Bool
alarm_shown layer r = pick (eqb layer 3) r.alarm1 (pick (eqb layer 4) r.alarm0 false)

unfoldable pub alarm_mark : ℕ → ℕ → Reading → List ℕ
alarm_mark layer minute r = pick (alarm_shown layer r) (fill (ascii "<path d='M~,0h1'/>") (minute ∷ [])) []

abbrev pub said_as : Option Day → ℕ → ℕ → ℕ → ℕ → List ℕ
said_as begin form minute n place =
    fill (choice form (ascii "<path d='M~,0v1'><title>|<li>")) (minute ∷ []) ++ moment_text begin minute ++ ascii ": " ++ fault_text n place
    ++ fill (choice form (ascii "</title></path>|</li>")) []

unfoldable pub fault_mark : Option Day → ℕ → ℕ → ℕ → ℕ → List ℕ
fault_mark begin layer minute n place = pick (eqb layer 2) (said_as begin 0 minute n place) (pick (eqb layer 5) (said_as begin 1 minute n place) [])

abbrev pub mark_text : Option Day → ℕ → ℕ → Result Reading Fault → List ℕ
mark_text begin layer minute (Ok r) = alarm_mark layer minute r
mark_text begin layer minute (Err f) = fault_mark begin layer minute (number_of f) (place_named f)

-- What a record adds, and whether a line goes on after it.
unfoldable pub part_text : Option Day → ℕ → Bool → Entry → List ℕ
part_text begin layer joined e =
    pick (ltb layer 2) (point_text joined e.minute (value_in layer (reply_in e))) (mark_text begin layer e.minute (reply_in e))

unfoldable pub line_goes_on : ℕ → Entry → Bool
line_goes_on layer e = pick (ltb layer 2) (is_some (value_in layer (reply_in e))) false

-- A layer of some records, in their order.
unfoldable pub layer_text : Option Day → ℕ → Bool → List Entry → List ℕ
unfolding part_text line_goes_on
layer_text begin layer joined [] = []
layer_text begin layer joined (e ∷ l) = part_text begin layer joined e ++ layer_text begin layer (line_goes_on layer e) l
