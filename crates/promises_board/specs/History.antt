-- Any sequence of calls. From an empty board no address is ever in use twice, rows past the thirtieth are never touched, and the board fills at its
-- own size: a new address finds no row exactly when as many are on the board as it has rows.
use Rattle.std.specs.Prelude.{◌≡◌, false, List, ℕ, suc, ◌+◌, ◌<◌, ◌≤◌, min, eqb, length}
use Rattle.frame.specs.Pick.{pick}
use Rattle.board.specs.declared.Row.{Row}
use Rattle.board.specs.Gauge.{profile_misplaced}
use Rattle.promises_order.specs.Places.{Empty, OnBoard, row_at}
use Rattle.promises_order.specs.Calls.{Records, Call, enrol, hear, remove, look_up, poll, Answer, Does}
use Rattle.promises_board.specs.Calls.{Holds, Unknown}

-- Calls one after another, the latest last, each with an outcome that its contract allows.
pub data History (calls : Records) (start : List Row) : List Row → Type 0 where
  begun : History calls start start
  called : {rows after : List Row} (c : Call) (answer : Answer c) → History calls start rows → Does calls rows c answer after → History calls start after

-- No address is in use twice.
abbrev pub NoneTwice : List Row → Type 0
NoneTwice rows = (i j address : ℕ) → OnBoard rows i → OnBoard rows j → Holds (row_at rows i) address → Holds (row_at rows j) address → i ≡ j

-- The enrolments and the removals of a history that answered 0: n before a call, and after it.
abbrev pub taken_by : (c : Call) → Answer c → ℕ → ℕ
taken_by (enrol settings a gauge) answer n = pick (eqb answer 0) (suc n) n
taken_by (hear minute a count reply) answer n = n
taken_by (remove a) answer n = n
taken_by (look_up a) answer n = n
taken_by (poll a raise reset out) answer n = n

abbrev pub given_by : (c : Call) → Answer c → ℕ → ℕ
given_by (enrol settings a gauge) answer n = n
given_by (hear minute a count reply) answer n = n
given_by (remove a) answer n = pick (eqb answer 0) (suc n) n
given_by (look_up a) answer n = n
given_by (poll a raise reset out) answer n = n

unfoldable pub rows_taken : {calls : Records} {start rows : List Row} → History calls start rows → ℕ
rows_taken begun = 0
rows_taken (called c answer h e) = taken_by c answer (rows_taken h)

unfoldable pub given : {calls : Records} {start rows : List Row} → History calls start rows → ℕ
given begun = 0
given (called c answer h e) = given_by c answer (given h)

pub record BoardHistory (calls : Records) : Type 0 where
  pub none-twice : (start rows : List Row) → Empty start → History calls start rows → NoneTwice rows
  -- The rows stay as many as were lent, and those past the thirtieth stay as they were.
  pub as_many : (start rows : List Row) → History calls start rows → length rows ≡ length start
  pub beyond : (start rows : List Row) → History calls start rows → (i : ℕ) → 30 ≤ i → row_at rows i ≡ row_at start i
  -- A new address is enrolled while fewer are on the board than it has rows, 30 at most, and else refused by 19.
  pub room : (start rows after : List Row) (h : History calls start rows) (settings address gauge answer : ℕ) → Empty start → settings ≤ 15 → address ≤ 999
      → profile_misplaced settings gauge ≡ false → Unknown rows address → calls.enrols rows settings address gauge answer after
      → rows_taken h < given h + min 30 (length start) → answer ≡ 0
  pub full : (start rows after : List Row) (h : History calls start rows) (settings address gauge answer : ℕ) → Empty start → settings ≤ 15 → address ≤ 999
      → profile_misplaced settings gauge ≡ false → Unknown rows address → calls.enrols rows settings address gauge answer after
      → given h + min 30 (length start) ≤ rows_taken h → answer ≡ 19
