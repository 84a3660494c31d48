-- Document 02, request 09: how long has it been bad. Said over every history of calls from an empty board, by what a look then tells; and of any two
-- hearings of different addresses, on any rows at all.
use Rattle.std.specs.Prelude.{◌≡◌, true, ◌&&◌, ◌||◌, List, ℕ, suc, min, eqb}
use Rattle.frame.specs.Pick.{pick}
use Rattle.board.specs.declared.Heard.{Heard}
use Rattle.board.specs.declared.Looked.{Looked}
use Rattle.board.specs.declared.Row.{Row}
use Rattle.board.specs.Row.{is_in_use, sets_fault, Minute, never, at}
use Rattle.board.specs.Calls.{minute_told}
use Rattle.promises_order.specs.Places.{row_at, OnBoard, Empty}
use Rattle.promises_order.specs.Calls.{Records, Call, enrol, hear, remove, look_up, poll, Answer}
use Rattle.promises_board.specs.History.{History, begun, called}

-- The hearings of an address in a history that answered a fault of the row, since the last one that answered 0 or since its enrolment. A hearing
-- that did not reach the row is not counted.
abbrev pub faults_since : ℕ → ℕ → ℕ
faults_since number n = pick (eqb number 0) 0 (pick (sets_fault number) (suc n) n)

abbrev pub since_by : (c : Call) → Answer c → (address n : ℕ) → ℕ
since_by (enrol settings a gauge) answer address n = pick (eqb a address && eqb answer 0) 0 n
since_by (hear minute a count reply) answer address n = pick (eqb a address) (faults_since answer.number n) n
since_by (remove a) answer address n = n
since_by (look_up a) answer address n = n
since_by (poll a raise reset out) answer address n = n

unfoldable pub since : {calls : Records} {start rows : List Row} → History calls start rows → ℕ → ℕ
since begun address = 0
since (called c answer h e) address = since_by c answer address (since h address)

-- The minute of the latest hearing of an address that reached its row, good or faulty; never where there is none since its enrolment.
abbrev pub latest_by : (c : Call) → Answer c → ℕ → Minute → Minute
latest_by (enrol settings a gauge) answer address before = pick (eqb a address && eqb answer 0) never before
latest_by (hear minute a count reply) answer address before =
    pick (eqb a address && (eqb answer.number 0 || sets_fault answer.number)) (at minute) before
latest_by (remove a) answer address before = before
latest_by (look_up a) answer address before = before
latest_by (poll a raise reset out) answer address before = before

unfoldable pub latest : {calls : Records} {start rows : List Row} → History calls start rows → ℕ → Minute
latest begun address = never
latest (called c answer h e) address = latest_by c answer address (latest h address)

pub record BoardSince (calls : Records) : Type 0 where
  -- On a board begun empty the count of a row in use is 0 exactly where its fault is.
  pub count-and-fault : (start rows : List Row) → Empty start → History calls start rows → (i : ℕ) → OnBoard rows i → is_in_use (row_at rows i) ≡ true
      → ((row_at rows i).faulty ≡ 0 → (row_at rows i).fault ≡ 0) × ((row_at rows i).fault ≡ 0 → (row_at rows i).faulty ≡ 0)
  -- The count that a look tells is that of the history, and stays at 65,535; the minute is that of the latest hearing, even if the clock went back.
  pub counted_since : (start rows : List Row) → Empty start → (h : History calls start rows) (address : ℕ) (told : Looked) → calls.looks_up rows address told
      → told.number ≡ 0
      → told.faulty ≡ min 65535 (since h address)
  pub latest_heard : (start rows : List Row) → Empty start → (h : History calls start rows) (address : ℕ) (told : Looked) → calls.looks_up rows address told
      → told.number ≡ 0
      → minute_told told ≡ latest h address
  -- Replies for different addresses, heard in either order, give the same answers and the same board, whatever rows were lent.
  pub either_order : (rows one both other again : List Row) (m a k n b l : ℕ) (y z : List ℕ) (p q r s : Heard) → (a ≡ b → ⊥)
      → calls.hears rows m a k y p one → calls.hears one n b l z q both → calls.hears rows n b l z r other → calls.hears other m a k y s again
      → (p ≡ s) × (q ≡ r) × (both ≡ again)
