-- The board's calls of rows so kept: of each call, case by case, what it answers, what becomes of its own row, which rows move, and that every other row
-- stays. The cases are those of document 01 in its order, and they leave no input out; rows not so kept are refused by 38 before them
-- (`promises_order/specs/Order.antt`). Places are said here by what stands in the rows and not by a search.
use Rattle.std.specs.Prelude.{◌≡◌, true, false, ◌||◌, List, ℕ, ◌<◌, ◌≤◌, length, take, get_or}
use Rattle.frame.specs.declared.Reading.{Reading}
use Rattle.frame.specs.declared.Temperature.{Temperature}
use Rattle.frame.specs.Kinds.{is_set}
use Rattle.frame.specs.Line.{formed}
use Rattle.frame.specs.Poll.{ReadsPoll}
use Rattle.frame.specs.Reply.{ReadsReply}
use Rattle.board.specs.declared.Heard.{Heard}
use Rattle.board.specs.declared.Looked.{Looked}
use Rattle.board.specs.declared.Row.{Row}
use Rattle.board.specs.Gauge.{is6500, profile_misplaced, gauge_told}
use Rattle.board.specs.Row.{is_free, is_in_use, last_of, new_row, with_reading, with_fault, place_told, heard_at, heard_of}
use Rattle.board.specs.Calls.{Enrols, Hears, Removes, LooksUp, PollsRow, heard_as, refused_look, last_told, minute_told}
use Rattle.promises_frame.specs.One.{One}
use Rattle.promises_frame.specs.Bits.{bit_at}
use Rattle.promises_order.specs.Places.{row_at, OnBoard}
use Rattle.promises_order.specs.Calls.{today, Call, Answer, Does}
use Rattle.promises_order.specs.Order.{SoKept, Front, IsPlaceFor, Inserted, Closed}
use Rattle.promises_board.specs.Profiles.{OutOfRange, Checked}
use Rattle.std.specs.Prelude.{Ok, Err}
use Rattle.frame.specs.declared.faults.Fault.TheVariants.{InNoChart}
use Rattle.frame.specs.Faults.{number_of, place_named}
use Rattle.frame.specs.declared.faults.Fault.{Fault}

-- A row in use holds this address.
pub record Holds (row : Row) (address : ℕ) : Type 0 where
  pub used : is_in_use row ≡ true
  pub same : row.address ≡ address

-- The row of an address: if two rows in use hold it, the first counts.
pub record IsRowOf (rows : List Row) (address : ℕ) (i : ℕ) : Type 0 where
  pub place : OnBoard rows i
  pub here : Holds (row_at rows i) address
  pub first : (j : ℕ) → j < i → Holds (row_at rows j) address → ⊥

-- No row of the board holds the address.
abbrev pub Unknown : List Row → ℕ → Type 0
Unknown rows address = (i : ℕ) → OnBoard rows i → Holds (row_at rows i) address → ⊥

-- The first free row, and no free row.
pub record IsFirstFree (rows : List Row) (i : ℕ) : Type 0 where
  pub place : OnBoard rows i
  pub free : is_free (row_at rows i) ≡ true
  pub first : (j : ℕ) → j < i → is_in_use (row_at rows j) ≡ true

abbrev pub NoFree : List Row → Type 0
NoFree rows = (i : ℕ) → OnBoard rows i → is_in_use (row_at rows i) ≡ true

-- The cases leave nothing out: an address has a row or is unknown, a board has a first free row or none, and a temperature is out of range or not.
pub data Known (rows : List Row) (address : ℕ) : Type 0 where
  at_row : (i : ℕ) → IsRowOf rows address i → Known rows address
  unknown : Unknown rows address → Known rows address

pub data Vacant (rows : List Row) : Type 0 where
  at-free : (i : ℕ) → IsFirstFree rows i → Vacant rows
  none_free : NoFree rows → Vacant rows

pub record BoardCases : Type 0 where
  pub address : (rows : List Row) (address : ℕ) → Known rows address
  pub row : (rows : List Row) → Vacant rows
  pub range : (row : Row) (t : Temperature) → Checked row t

-- One row has changed: it is now this row, and every other row, past the thirtieth too, is what it was.
pub record OnlyRow (rows : List Row) (i : ℕ) (row : Row) (after : List Row) : Type 0 where
  pub own : row_at after i ≡ row
  pub others : (j : ℕ) → (j ≡ i → ⊥) → row_at after j ≡ row_at rows j
  pub as_many : length after ≡ length rows

-- Enrolling: 10, 11, 27, 18, 19, and no row changes; or 0, and a row in use with this address, these settings and this gauge, no reading and fault 0 is
-- put at the place of its address among the n rows in use, and those behind it move on by one, into the first free row.
pub record EnrolPromise (rows : List Row) (settings address gauge answer : ℕ) (after : List Row) : Type 0 where
  pub bad_settings : 15 < settings → (answer ≡ 10) × (after ≡ rows)
  pub bad_address : settings ≤ 15 → 999 < address → (answer ≡ 11) × (after ≡ rows)
  pub misplaced : settings ≤ 15 → address ≤ 999 → profile_misplaced settings gauge ≡ true → (answer ≡ 27) × (after ≡ rows)
  pub twice : settings ≤ 15 → address ≤ 999 → profile_misplaced settings gauge ≡ false
      → (i : ℕ) → IsRowOf rows address i → (answer ≡ 18) × (after ≡ rows)
  pub no_row : settings ≤ 15 → address ≤ 999 → profile_misplaced settings gauge ≡ false → Unknown rows address → NoFree rows
      → (answer ≡ 19) × (after ≡ rows)
  pub enrolled : settings ≤ 15 → address ≤ 999 → profile_misplaced settings gauge ≡ false → Unknown rows address → (n : ℕ) → IsFirstFree rows n
      → (answer ≡ 0) × ((i : ℕ) → IsPlaceFor rows address n i → Inserted rows i n (new_row settings address gauge) after)

-- Hearing: 11, 14, 17, 10 by the row's own settings, and no row changes; 1 to 9, and 26 of a reply that the frame accepts and whose temperature is out of
-- its row's range, and of the row only the fault is set, 7 with the place of the unreadable digit, which is answered too, and one faulty reply more
-- is counted; or 0, and its reading, minute and fault 0 are set, and the count is 0. In both cases the row was last heard at this minute.
pub record HearPromise (rows : List Row) (minute address count : ℕ) (reply : List ℕ) (answer : Heard) (after : List Row) : Type 0 where
  pub bad_address : 999 < address → (answer ≡ heard_as 11 0) × (after ≡ rows)
  pub bad_form : address ≤ 999 → formed count reply ≡ false → (answer ≡ heard_as 14 0) × (after ≡ rows)
  pub unknown : address ≤ 999 → formed count reply ≡ true → Unknown rows address → (answer ≡ heard_as 17 0) × (after ≡ rows)
  pub bad_settings : address ≤ 999 → formed count reply ≡ true → (i : ℕ) → IsRowOf rows address i → 15 < (row_at rows i).settings
      → (answer ≡ heard_as 10 0) × (after ≡ rows)
  pub faulty : address ≤ 999 → formed count reply ≡ true → (i : ℕ) → IsRowOf rows address i → (row_at rows i).settings ≤ 15
      → (f : Fault) → ReadsReply (row_at rows i).settings address count reply (Err f)
      → (answer ≡ heard_as (number_of f) (place_named f)) × (1 ≤ number_of f) × (number_of f ≤ 9)
      × OnlyRow rows i (with_fault (heard_at (row_at rows i) minute) (number_of f) (place_named f)) after
  pub unreadable : address ≤ 999 → formed count reply ≡ true → (i : ℕ) → IsRowOf rows address i
      → (place : ℕ) → ReadsReply (row_at rows i).settings address count reply (Err (InNoChart place))
      → (answer ≡ heard_as 7 place) × OnlyRow rows i (with_fault (heard_at (row_at rows i) minute) 7 place) after
  pub outside : address ≤ 999 → formed count reply ≡ true → (i : ℕ) → IsRowOf rows address i
      → (r : Reading) → ReadsReply (row_at rows i).settings address count reply (Ok r) → OutOfRange (row_at rows i) r.temperature
      → (answer ≡ heard_as 26 0) × OnlyRow rows i (with_fault (heard_at (row_at rows i) minute) 26 0) after
  pub heard : address ≤ 999 → formed count reply ≡ true → (i : ℕ) → IsRowOf rows address i
      → (r : Reading) → ReadsReply (row_at rows i).settings address count reply (Ok r) → (OutOfRange (row_at rows i) r.temperature → ⊥)
      → (answer ≡ heard_as 0 0) × OnlyRow rows i (with_reading (heard_at (row_at rows i) minute) r minute) after

-- Removing: 11, 17, and no row changes; or 0, and of the n rows in use those behind the row move up by one, and the last of their places is all zeros.
pub record RemovePromise (rows : List Row) (address answer : ℕ) (after : List Row) : Type 0 where
  pub bad_address : 999 < address → (answer ≡ 11) × (after ≡ rows)
  pub unknown : address ≤ 999 → Unknown rows address → (answer ≡ 17) × (after ≡ rows)
  pub removed : address ≤ 999 → (i : ℕ) → IsRowOf rows address i → (answer ≡ 0) × ((n : ℕ) → Front rows n → Closed rows i n after)

-- What is told of a row.
pub record TellsRow (row : Row) (answer : Looked) : Type 0 where
  pub number : answer.number ≡ 0
  pub address : answer.address ≡ row.address
  pub settings : answer.settings ≡ row.settings
  pub fault : answer.fault ≡ row.fault
  -- Beside fault 7 the row's place, and none beside any other fault, whatever stands in the row.
  pub place : answer.place ≡ place_told row
  pub faulty : answer.faulty ≡ row.faulty
  pub heard : minute_told answer ≡ heard_of row
  pub reading : last_told answer ≡ last_of row
  -- The profile, 0 to 2, and 4 more with the mark, whatever else stands in the byte.
  pub gauge : answer.gauge ≡ gauge_told row.gauge

-- Looking: 11, 17, and the number alone is answered; or what stands in the row.
pub record LookPromise (rows : List Row) (address : ℕ) (answer : Looked) : Type 0 where
  pub bad_address : 999 < address → answer ≡ refused_look 11
  pub unknown : address ≤ 999 → Unknown rows address → answer ≡ refused_look 17
  pub found : address ≤ 999 → (i : ℕ) → IsRowOf rows address i → TellsRow (row_at rows i) answer

-- What a row may be asked: neither raise nor reset, or one of them where it is marked.
pub data MayAsk (row : Row) (raise reset : ℕ) : Type 0 where
  neither : is_set raise ≡ false → is_set reset ≡ false → MayAsk row raise reset
  to_raise : is6500 row.gauge ≡ true → is_set reset ≡ false → MayAsk row raise reset
  to_reset : is6500 row.gauge ≡ true → is_set raise ≡ false → MayAsk row raise reset

-- Writing a row's poll: 11, 17, 28 for raise or reset to a row without the mark and for both at once, 15, and no byte changes; or 0, and the first 2 bytes
-- read back as a poll of this address with what was asked, bit 2, which a poll does not use, is 0, and the rest stay.
pub record PollPromise (rows : List Row) (address raise reset : ℕ) (out : List ℕ) (answer : ℕ) (after : List ℕ) : Type 0 where
  pub bad_address : 999 < address → (answer ≡ 11) × (after ≡ out)
  pub unknown : address ≤ 999 → Unknown rows address → (answer ≡ 17) × (after ≡ out)
  pub unmarked : address ≤ 999 → (i : ℕ) → IsRowOf rows address i → (is_set raise || is_set reset) ≡ true → is6500 (row_at rows i).gauge ≡ false
      → (answer ≡ 28) × (after ≡ out)
  pub both : address ≤ 999 → (i : ℕ) → IsRowOf rows address i → is_set raise ≡ true → is_set reset ≡ true → (answer ≡ 28) × (after ≡ out)
  pub short : address ≤ 999 → (i : ℕ) → IsRowOf rows address i → MayAsk (row_at rows i) raise reset → length out < 2 → (answer ≡ 15) × (after ≡ out)
  pub polled : address ≤ 999 → (i : ℕ) → IsRowOf rows address i → MayAsk (row_at rows i) raise reset → 2 ≤ length out
      → (answer ≡ 0) × ReadsPoll (take 2 after) (Ok (record { address = address; raise = is_set raise; reset = is_set reset }))
      × (length after ≡ length out) × ((k : ℕ) → 2 ≤ k → get_or after k 0 ≡ get_or out k 0) × (bit_at (take 2 after) 2 ≡ 0)

-- Whatever a contract allows keeps these promises, and it allows one outcome.
pub record BoardCalls : Type 0 where
  pub enrol : (rows : List Row) (settings address gauge answer : ℕ) (after : List Row) → SoKept rows → Enrols rows settings address gauge answer after
      → EnrolPromise rows settings address gauge answer after
  pub hear : (rows : List Row) (minute address count : ℕ) (reply : List ℕ) (answer : Heard) (after : List Row) → SoKept rows
      → Hears rows minute address count reply answer after → HearPromise rows minute address count reply answer after
  pub remove : (rows : List Row) (address answer : ℕ) (after : List Row) → SoKept rows → Removes rows address answer after
      → RemovePromise rows address answer after
  pub look_up : (rows : List Row) (address : ℕ) (answer : Looked) → SoKept rows → LooksUp rows address answer → LookPromise rows address answer
  pub poll : (rows : List Row) (address raise reset : ℕ) (out : List ℕ) (answer : ℕ) (after : List ℕ) → SoKept rows
      → PollsRow rows address raise reset out answer after → PollPromise rows address raise reset out answer after

-- Of each call any two outcomes that its contract allows, answer and memory, are equal, and there is one.
pub record BoardOneOutcome : Type 0 where
  pub any_call : (rows : List Row) (c : Call) → One (Answer c × List Row) (λ o. Does today rows c o.0 o.1)
