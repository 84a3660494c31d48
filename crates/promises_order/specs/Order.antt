-- Document 02, request 11: the board in address order. From an empty board on, the same calls of the old board (`OldBoard`) and of the new one are
-- answered alike and leave the same rows in use; only their places differ. Said once over all calls, as two runs side by side. And of any rows: 38 is
-- answered exactly where they are not so kept, and rows so kept stay so.
use Rattle.std.specs.Prelude.{◌≡◌, true, List, ℕ, suc, ◌<◌, ◌≤◌, length}
use Rattle.board.specs.declared.Row.{Row}
use Rattle.board.specs.Row.{is_free, is_in_use, free_row, new_row}
use Rattle.board.specs.Rows.{board_of}
use Rattle.board.specs.Calls.{Enrols, Removes}
use Rattle.promises_order.specs.Places.{row_at, OnBoard, Empty}
use Rattle.promises_order.specs.OldBoard.{rows_held_by}
use Rattle.promises_order.specs.Calls.{today, as_it_was, Call, Answer, Does, number_answered, refused38, MovesNone}

-- Rows so kept, said by their places: before a row in use every row is in use and has a smaller address. Only the rows of the board count, and of a
-- free row nothing is asked.
pub record SoKept (rows : List Row) : Type 0 where
  pub front : (i j : ℕ) → i < j → OnBoard rows j → is_in_use (row_at rows j) ≡ true → is_in_use (row_at rows i) ≡ true
  pub rising : (i j : ℕ) → i < j → OnBoard rows j → is_in_use (row_at rows j) ≡ true → (row_at rows i).address < (row_at rows j).address

-- The same calls, the latest last, made of the old board and of the new one, each with an outcome that its record allows.
pub data SameCalls (start : List Row) : List Row → List Row → Type 0 where
  begin : SameCalls start start start
  call : {rows others after later : List Row} (c : Call) (a b : Answer c) → SameCalls start rows others
      → Does as_it_was rows c a after → Does today others c b later → SameCalls start after later

-- Every call was answered alike, refusals included.
abbrev pub AnsweredSame : {start rows others : List Row} → SameCalls start rows others → Type 0
AnsweredSame begin = Unit {0}
AnsweredSame (call c a b calls e f) = (a ≡ b) × AnsweredSame calls

-- No call of the new board was refused by 38.
abbrev pub Never38 : {start rows others : List Row} → SameCalls start rows others → Type 0
Never38 begin = Unit {0}
Never38 (call c a b calls e f) = (number_answered c b ≡ 38 → ⊥) × Never38 calls

-- The same rows in use, wherever they stand: for every address those that hold it are the same, whole.
abbrev pub SameInUse : List Row → List Row → Type 0
SameInUse rows others = (address : ℕ) → rows_held_by address (board_of rows) ≡ rows_held_by address (board_of others)

-- As many rows as at the start, and those past the thirtieth as they were.
pub record Past (start rows : List Row) : Type 0 where
  pub as_many : length rows ≡ length start
  pub beyond : (i : ℕ) → 30 ≤ i → row_at rows i ≡ row_at start i

-- The first n rows are those in use: each of them is, and the row behind them, where there is one, is free.
pub record Front (rows : List Row) (n : ℕ) : Type 0 where
  pub used : (j : ℕ) → j < n → OnBoard rows j × (is_in_use (row_at rows j) ≡ true)
  pub free : OnBoard rows n → is_free (row_at rows n) ≡ true

-- The place of a new address among the first n rows: those before it have smaller addresses, and the one there, where it is in use, a greater one.
pub record IsPlaceFor (rows : List Row) (address n i : ℕ) : Type 0 where
  pub within : i ≤ n
  pub before : (j : ℕ) → j < i → (row_at rows j).address < address
  pub behind : i < n → address < (row_at rows i).address

-- Which rows an enrolment moves: the new row stands at its place, those in use from there on have moved on by one, the first free row is used up, and
-- every other row, the free ones behind it and those past the thirtieth too, is what it was.
pub record Inserted (rows : List Row) (i n : ℕ) (row : Row) (after : List Row) : Type 0 where
  pub before : (j : ℕ) → j < i → row_at after j ≡ row_at rows j
  pub there : row_at after i ≡ row
  pub moved : (j : ℕ) → i ≤ j → j < n → row_at after (suc j) ≡ row_at rows j
  pub behind : (j : ℕ) → n < j → row_at after j ≡ row_at rows j

-- There is such a number, and such a place unless the address stands there already.
pub data HasFront (rows : List Row) : Type 0 where
  front_of : (n : ℕ) → Front rows n → HasFront rows

pub data HasPlace (rows : List Row) (address n : ℕ) : Type 0 where
  place-for : (i : ℕ) → IsPlaceFor rows address n i → HasPlace rows address n
  held-at : (i : ℕ) → i < n → (row_at rows i).address ≡ address → HasPlace rows address n

-- Which rows a removal moves: those in use behind the row have moved up by one, the last of their places is all zeros, and every other row is what it was.
pub record Closed (rows : List Row) (i n : ℕ) (after : List Row) : Type 0 where
  pub before : (j : ℕ) → j < i → row_at after j ≡ row_at rows j
  pub moved : (j : ℕ) → i ≤ j → suc j < n → row_at after j ≡ row_at rows (suc j)
  pub last : (j : ℕ) → suc j ≡ n → row_at after j ≡ free_row
  pub behind : (j : ℕ) → n ≤ j → row_at after j ≡ row_at rows j

pub record BoardOrder : Type 0 where
  pub same_answers : (start rows others : List Row) → Empty start → (calls : SameCalls start rows others)
      → AnsweredSame calls × Never38 calls × SameInUse rows others × SoKept others × Past start rows × Past start others
  -- 38 is answered, with nothing else, and nothing is changed, where the rows are not so kept; and only there.
  pub is_38 : (rows : List Row) (c : Call) (answer : Answer c) (after : List Row) → (SoKept rows → ⊥) → Does today rows c answer after
      → (answer ≡ refused38 c) × (after ≡ rows)
  pub only_38 : (rows : List Row) (c : Call) (answer : Answer c) (after : List Row) → SoKept rows → Does today rows c answer after
      → number_answered c answer ≡ 38 → ⊥
  -- Rows so kept stay so, also with addresses above 999 among them.
  pub keeps : (rows : List Row) (c : Call) (answer : Answer c) (after : List Row) → SoKept rows → Does today rows c answer after → SoKept after
  -- Of any rows so kept each call answers what it answered of the old board, and leaves the same rows in use. Hearing, looking and polling leave the very
  -- rows and bytes that they left.
  pub as_before : (rows : List Row) (c : Call) (a b : Answer c) (before after : List Row) → SoKept rows
      → Does as_it_was rows c a before → Does today rows c b after → (a ≡ b) × SameInUse before after × Past before after
  pub very_outcome : (rows : List Row) (c : Call) (answer : Answer c) (after : List Row) → SoKept rows → MovesNone c
      → Does today rows c answer after → Does as_it_was rows c answer after
  -- Which rows move.
  pub enrol_moves : (rows : List Row) (settings address gauge : ℕ) (after : List Row) → SoKept rows → Enrols rows settings address gauge 0 after
      → (n i : ℕ) → Front rows n → IsPlaceFor rows address n i → Inserted rows i n (new_row settings address gauge) after
  pub remove_moves : (rows : List Row) (address : ℕ) (after : List Row) → SoKept rows → Removes rows address 0 after
      → (n i : ℕ) → Front rows n → i < n → (row_at rows i).address ≡ address → Closed rows i n after
  -- There are such places: rows so kept have a front, and an address that none of them holds has its place there.
  pub has_front : (rows : List Row) → SoKept rows → HasFront rows
  pub has_place : (rows : List Row) (address n : ℕ) → SoKept rows → Front rows n → HasPlace rows address n
  -- One outcome is allowed of each call.
  pub one-outcome : (rows : List Row) (c : Call) (a b : Answer c) (after later : List Row) → Does today rows c a after → Does today rows c b later
      → (a ≡ b) × (after ≡ later)
