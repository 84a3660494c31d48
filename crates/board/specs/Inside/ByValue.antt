-- How the code goes about it: the board as an array of 30 rows by value, one pass over it, and a row carried over a run of its places. A
-- reader of the documents need not believe this file.
use Rattle.std.specs.Prelude.{◌≡◌, Bool, true, false, not, ◌||◌, List, [], ◌∷◌, ◌++◌, ℕ, zero, suc, ◌+◌, ◌-◌, ◌<◌, ◌≤◌, leb, ltb, min, length, get_or, set, replicate, Option, None, Some, Result, Ok, Err, ⊤}
use Rattle.frame.specs.declared.Reading.{Reading}
use Rattle.frame.specs.declared.faults.Fault.{Fault}
use Rattle.frame.specs.declared.faults.Fault.TheVariants.{OutsideProfile, OutOfOrder}
use Rattle.frame.specs.Faults.{◌gives◌, first_of, number_of, place_named, verdict}
use Rattle.frame.specs.Pick.{pick}
use Rattle.board.specs.declared.Heard.{Heard}
use Rattle.board.specs.declared.Looked.{Looked}
use Rattle.board.specs.declared.Row.{Row}
use Rattle.board.specs.declared.value.Change.{Change}
use Rattle.board.specs.declared.value.Found.{Found}
use Rattle.board.specs.declared.value.Hearing.{Hearing}
use Rattle.board.specs.declared.value.Search.{Search}
use Rattle.board.specs.declared.value.Way.{Way}
use Rattle.board.specs.declared.value.Way.TheVariants.{Onward, Back}
use Rattle.board.specs.Gauge.{outside_by, unmarked, at_once}
use Rattle.board.specs.Row.{is_free, free_row, with_reading, with_fault, sets_fault}
use Rattle.board.specs.Rows.{place_by, place_of, on_board, row_of, place_free}
use Rattle.board.specs.Order.{in_address_order, if_in_order}
use Rattle.board.specs.Calls.{enrol_number, enrol_rows, hear_number, hear_place, hear_rows, heard_as, find_number, remove_rows, row_told, looked_at, refused_look, row_poll_number, row_poll_bytes}

-- A board by value: its rows, and free ones behind them up to thirty.
abbrev pub filled : List Row → List Row
filled board = board ++ replicate (30 - length board) free_row

-- The first row that is free or has at least this address: where the address stands, or is to stand.
abbrev pub reaches : ℕ → Row → Bool
reaches address row = is_free row || leb address row.address

abbrev pub place_for : ℕ → List Row → ℕ
place_for address board = place_by (reaches address) board

-- What is known of the rows passed, and whether they are so kept.
pub record Passed : Type 0 where
  pub vacant : ℕ
  pub below : ℕ
  pub least : ℕ
  pub kept : Bool

-- It, once one more has been passed: a free one, one in use that is out of order, or one that is not.
abbrev pub over_free : Passed → Passed
over_free s = record { vacant = s.vacant + 1; below = s.below; least = 0x10000; kept = s.kept }

abbrev pub over_low : Passed → Passed
over_low s = record { vacant = s.vacant; below = s.below; least = s.least; kept = false }

abbrev pub over_used : ℕ → Passed → Row → Passed
over_used address s row =
    record { vacant = s.vacant; below = pick (ltb row.address address) (s.below + 1) s.below; least = row.address + 1; kept = s.kept }

abbrev pub over_row : ℕ → Passed → Row → Passed
over_row address s row = pick (is_free row) (over_free s) (pick (ltb row.address s.least) (over_low s) (over_used address s row))

-- And once all have been passed.
unfoldable pub searched : ℕ → Passed → List Row → Passed
searched address s [] = s
searched address s (row ∷ rows) = searched address (over_row address s row) rows

abbrev pub unsearched : Passed
unsearched = record { vacant = 0; below = 0; least = 0; kept = true }

-- A search is of rows so kept. It ends with none where a row is out of order.
abbrev pub passed : Search → Passed
passed s = record { vacant = s.vacant; below = s.below; least = s.least; kept = true }

abbrev pub Says : Passed → Option Search → Type 0
Says p None = p.kept ≡ false
Says p (Some s) = p ≡ passed s

-- The places that a search names are in their order.
pub record Bounded (f : Found) : Type 0 where
  pub spot_free : f.spot ≤ f.free
  pub free_few : f.free ≤ 30

-- The row of an address stands at a place; or there is none.
pub record Stands (board : List Row) (address spot : ℕ) (row : Row) : Type 0 where
  pub place : spot ≡ place_of address board
  pub on : spot < length board
  pub there : row ≡ row_of address board

abbrev pub RowAt : List Row → (address spot : ℕ) → Option Row → Type 0
RowAt board address spot None = length board ≤ place_of address board
RowAt board address spot (Some row) = Stands board address spot row

-- What a search for an address finds on a board that is so kept: how many rows it has, the row, the first free place, and the place for the
-- address.
pub record Sees (board : List Row) (address : ℕ) (f : Found) : Type 0 where
  pub order : in_address_order board ≡ true
  pub count : f.n ≡ length board
  pub bounds : Bounded f
  pub vacant : f.free ≡ place_free board
  pub stands : f.spot ≡ place_for address board
  pub row : RowAt board address f.spot f.row

-- It finds nothing on one that is not.
abbrev pub Finds : List Row → ℕ → Option Found → Type 0
Finds board address None = in_address_order board ≡ false
Finds board address (Some f) = Sees board address f

-- How many of so many rows count.
abbrev pub rows_that_count : ℕ → ℕ
rows_that_count n = min n 30

-- It is found in the array of every board so long, of which as many rows count.
pub record FindsOn (held : List Row) (len address : ℕ) (found : Option Found) : Type 0 where
  pub on : (board : List Row) → length board ≡ rows_that_count len → held ≡ filled board → Finds board address found

-- A row carried over `count` places: each takes the row that comes, and hands on the one that stood in it. The places go on from `at`, where
-- `up` is 1 and `down` 0, or back from the one before it, where `up` is 0 and `down` 1.
unfoldable pub carry : (up down count at : ℕ) → Row → List Row → List Row
carry up down zero at row rows = rows
carry up down (suc count) at row rows = carry up down count (at - down + up) (get_or rows (at - down) free_row) (set rows (at - down) row)

-- All of these places are among the first n.
pub data Within (n up down count at : ℕ) : Type 0 where
  onward : up ≡ 1 → down ≡ 0 → at + count ≤ n → Within n up down count at
  backward : up ≡ 0 → down ≡ 1 → count ≤ at → at ≤ n → Within n up down count at

-- The way of a change in these numbers.
abbrev pub up_by : Way → ℕ
up_by Onward = 1
up_by Back = 0

abbrev pub down_by : Way → ℕ
down_by Onward = 0
down_by Back = 1

-- What a change makes of rows, and that it is of the first n alone.
abbrev pub moved : Change → List Row → List Row
moved c rows = carry (up_by c.way) (down_by c.way) c.count c.at c.row rows

abbrev pub FitsIn : ℕ → Change → Type 0
FitsIn n c = Within n (up_by c.way) (down_by c.way) c.count c.at

-- What it makes of them, where there is one.
abbrev pub made : Option Change → List Row → List Row
made None rows = rows
made (Some c) rows = moved c rows

-- By what an answer refuses, 0 where it does not.
abbrev pub number_in : {A : Type 0} → Result A Fault → ℕ
number_in (Ok value) = 0
number_in (Err f) = number_of f

-- The change that an answer allows.
abbrev pub change_in : Result Change Fault → Option Change
change_in (Ok c) = Some c
change_in (Err f) = None

-- What a call answers, and what its change makes of a board.
pub record Changes (board : List Row) (number : ℕ) (after : List Row) (answered : ℕ) (c : Option Change) : Type 0 where
  pub answers : answered ≡ number
  pub leaves : made c board ≡ after
  pub fits : (d : Change) → c ≡ Some d → FitsIn (length board) d

-- A change of the row at a place.
abbrev pub change_of : ℕ → Row → Change
change_of at row = record { at = at; count = 1; way = Onward; row = row }

-- What a faulty reply makes of the row at a place.
abbrev pub faulty_hearing : ℕ → Row → Fault → Hearing
faulty_hearing at row f = record { change = change_of at (with_fault row (number_of f) (place_named f)); wrong = Some f }

-- What a reading makes of it: 26 where its temperature is outside the row's profile.
abbrev pub read_hearing : ℕ → Row → ℕ → Reading → Hearing
read_hearing at row minute r =
    pick (outside_by row.settings row.gauge r.temperature) (faulty_hearing at row OutsideProfile)
    (record { change = change_of at (with_reading row r minute); wrong = None })

-- What an answer of the frame makes of it.
abbrev pub hearing_of : ℕ → Row → ℕ → Result Reading Fault → Result Hearing Fault
hearing_of at row minute (Ok r) = Ok (read_hearing at row minute r)
hearing_of at row minute (Err f) = pick (sets_fault (number_of f)) (Ok (faulty_hearing at row f)) (Err f)

-- The change of a hearing, and what is wrong by it.
abbrev pub heard_change : Result Hearing Fault → Option Change
heard_change (Ok h) = Some h.change
heard_change (Err f) = None

abbrev pub wrong_by : Result Hearing Fault → Option Fault
wrong_by (Ok h) = h.wrong
wrong_by (Err f) = Some f

-- What hearing answers, by what is wrong.
abbrev pub said_of : Option Fault → Heard
said_of None = heard_as 0 0
said_of (Some f) = heard_as (number_of f) (place_named f)

-- The change is the call's on every board on which a search for the address finds f: 38, and no row, on one not so kept.
pub record ChangesOn (f : Option Found) (address : ℕ) (number : List Row → ℕ) (after : List Row → List Row) (answered : ℕ) (c : Option Change) : Type 0 where
  pub on : (board : List Row) → Finds board address f
      → Changes board (if_in_order board (number board) 38) (if_in_order board (after board) board) answered c

abbrev pub EnrolsOn : Option Found → (settings address gauge : ℕ) → Result Change Fault → Type 0
EnrolsOn f settings address gauge answer =
    ChangesOn f address (λ board. enrol_number board settings address gauge) (λ board. enrol_rows board settings address gauge)
    (number_in answer) (change_in answer)

-- Of a hearing the answer names the place too.
pub record HearsOn (f : Option Found) (minute address count : ℕ) (reply : List ℕ) (answer : Result Hearing Fault) : Type 0 where
  pub changes : ChangesOn f address (λ board. hear_number board address count reply) (λ board. hear_rows board minute address count reply)
      (said_of (wrong_by answer)).number (heard_change answer)
  pub names : (board : List Row) → Finds board address f → (said_of (wrong_by answer)).place ≡ if_in_order board (hear_place board address count reply) 0

abbrev pub RemovesOn : Option Found → ℕ → Result Change Fault → Type 0
RemovesOn f address answer =
    ChangesOn f address (λ board. find_number board address) (λ board. remove_rows board address) (number_in answer) (change_in answer)

-- A look as it is told: a refusal by its number alone.
abbrev pub told_look : Result Looked Fault → Looked
told_look (Ok told) = told
told_look (Err f) = refused_look (number_of f)

-- The answer is that of looking, on every such board: whole, what is told of the row or the fault that refuses, and as it is told.
pub record LooksOn (f : Option Found) (address : ℕ) (answer : Result Looked Fault) : Type 0 where
  pub whole : (board : List Row) → Finds board address f
      → answer ≡ if_in_order board (verdict (find_number board address) (row_told (row_of address board))) (Err OutOfOrder)
  pub on : (board : List Row) → Finds board address f → told_look answer ≡ if_in_order board (looked_at board address) (refused_look 38)

-- Whether a row may be polled so: 11, 17, 28, and 0 where it may.
unfoldable pub may_poll : List Row → (address raise reset : ℕ) → ℕ
unfolding first_of
may_poll board address raise reset =
    first_of
    (ltb 999 address gives 11
    ∷ not (on_board address board) gives 17
    ∷ unmarked (row_of address board).gauge raise reset gives 28
    ∷ at_once raise reset gives 28
    ∷ [])

pub record MayPollOn (f : Option Found) (address raise reset : ℕ) (answer : Result ⊤ Fault) : Type 0 where
  pub on : (board : List Row) → Finds board address f → answer ≡ if_in_order board (verdict (may_poll board address raise reset) tt) (Err OutOfOrder)

-- What writing a row's poll answers and leaves of the output, on every such board. It answers the two bytes that it wrote, or the fault that
-- refuses.
pub record PollsOn (f : Option Found) (address raise reset : ℕ) (out : List ℕ) (answer : Result ℕ Fault) (after : List ℕ) : Type 0 where
  pub whole : (board : List Row) → Finds board address f
      → answer ≡ if_in_order board (verdict (row_poll_number board address raise reset out) 2) (Err OutOfOrder)
  pub on : (board : List Row) → Finds board address f
      → (number_in answer ≡ if_in_order board (row_poll_number board address raise reset out) 38)
      × (after ≡ if_in_order board (row_poll_bytes board address raise reset out) out)
