-- The board beside the card: each reply is heard on it too. What it shows of a transmitter is made from what the transmitter's polls say, and from nothing else.
use Rattle.std.specs.Prelude.{◌≡◌, List, [], ◌∷◌, ◌++◌, ℕ, eqb}
use Rattle.frame.specs.Pick.{pick}
use Rattle.board.specs.declared.Heard as board
use Rattle.board.specs.declared.Looked.{Looked}
use Rattle.board.specs.declared.Row.{Row}
use Rattle.board.specs.Gauge.{outside_by}
use Rattle.board.specs.Row.{Last, good, Minute, at, more}
use Rattle.board.specs.Calls.{Hears, last_told, minute_told}
use Rattle.promises_order.specs.Places.{row_at}
use Rattle.promises_board.specs.Calls.{IsRowOf}
use Rattle.promises_wire.specs.Polls.{Poll}
use Rattle.promises_wire.specs.Heard.{HeardOnLines}
use Rattle.std.specs.Prelude.{Result, Ok, Err}
use Rattle.frame.specs.declared.faults.Fault.{Fault}
use Rattle.frame.specs.declared.Reading.{Reading}
use Rattle.frame.specs.Faults.{number_of, place_named}

-- A board from some rows on, and the polls whose replies were heard on it, the oldest first. Each was polled with the settings of its row, if it has one.
pub data OnTheBoard (start : List Row) : List Poll → List Row → Type 0 where
  none_heard : OnTheBoard start [] start
  heard_next : {ps : List Poll} {rows after : List Row} (p : Poll) (count : ℕ) (bytes : List ℕ) (answer : board.Heard) → OnTheBoard start ps rows
      → ((i : ℕ) → IsRowOf rows p.asked.address i → (row_at rows i).settings ≡ p.asked.settings)
      → HeardOnLines p.asked.timing p.sensed.samples count bytes
      → Hears rows p.asked.minute p.asked.address count bytes answer after
      → OnTheBoard start (ps ++ p ∷ []) after

-- What a look tells of a transmitter: the last good reading with its minute; the fault of the latest reply, 0 where that was good, with the place of the unreadable digit
-- beside fault 7; how many replies were faulty since the last good one; and the minute of the latest.
pub record BoardShows : Type 0 where
  pub last : Last
  pub fault : ℕ
  pub place : ℕ
  pub faulty : ℕ
  pub minute : Minute

abbrev pub shows_in : Looked → BoardShows
shows_in told =
    record { last = last_told told; fault = told.fault; place = told.place; faulty = told.faulty; minute = minute_told told }

-- After one more faulty reply, and after a reply that says so: a reading outside the profile of the gauge is fault 26.
abbrev pub after_fault : (minute fault place : ℕ) → BoardShows → BoardShows
after_fault minute fault place s =
    record { last = s.last; fault = fault; place = place; faulty = more s.faulty; minute = at minute }

abbrev pub after_reply : (settings gauge minute : ℕ) → Result Reading Fault → BoardShows → BoardShows
after_reply settings gauge minute (Ok r) s =
    pick (outside_by settings gauge r.temperature) (after_fault minute 26 0 s)
    (record { last = good r minute; fault = 0; place = 0; faulty = 0; minute = at minute })
after_reply settings gauge minute (Err f) s = after_fault minute (number_of f) (place_named f) s

-- After polls, of which those of this address count.
unfoldable pub shown_by : (settings gauge address : ℕ) → BoardShows → List Poll → BoardShows
shown_by settings gauge address s [] = s
shown_by settings gauge address s (p ∷ ps) =
    shown_by settings gauge address
    (pick (eqb p.asked.address address) (after_reply settings gauge p.asked.minute p.read.says s) s)
    ps
