-- Document 02, request 10: a row's poll. Said by the bits that stand in the output, of one call and after any calls.
use Rattle.std.specs.Prelude.{◌≡◌, true, ◌&&◌, ◌||◌, List, ℕ, eqb, take}
use Rattle.frame.specs.declared.Poll.{Poll}
use Rattle.frame.specs.Kinds.{is_set}
use Rattle.frame.specs.Pick.{pick}
use Rattle.frame.specs.Poll.{ReadsPoll}
use Rattle.board.specs.declared.Looked.{Looked}
use Rattle.board.specs.declared.Row.{Row}
use Rattle.board.specs.Gauge.{is6500}
use Rattle.promises_order.specs.Places.{row_at, Empty}
use Rattle.promises_board.specs.Calls.{IsRowOf}
use Rattle.promises_order.specs.Calls.{Records, Call, enrol, hear, remove, look_up, poll, Answer}
use Rattle.promises_board.specs.History.{History, begun, called}
use Rattle.std.specs.Prelude.{Ok}

-- The address has a row, which is marked as a 6500.
pub record Marked (rows : List Row) (address : ℕ) : Type 0 where
  pub at : ℕ
  pub row : IsRowOf rows address at
  pub mark : is6500 (row_at rows at).gauge ≡ true

-- The gauge that an address was enrolled with last, in a history, by an enrolment that answered 0; 0 where there is none.
abbrev pub gauge_by : (c : Call) → Answer c → (address before : ℕ) → ℕ
gauge_by (enrol settings a gauge) answer address before = pick (eqb a address && eqb answer 0) gauge before
gauge_by (hear minute a count reply) answer address before = before
gauge_by (remove a) answer address before = before
gauge_by (look_up a) answer address before = before
gauge_by (poll a raise reset out) answer address before = before

unfoldable pub gauge_given : {calls : Records} {start rows : List Row} → History calls start rows → ℕ → ℕ
gauge_given begun address = 0
gauge_given (called c answer h e) address = gauge_by c answer address (gauge_given h address)

pub record BoardPoll (calls : Records) : Type 0 where
  -- What is written is a poll of the address that was asked for, never with both bits set, and with one of them only to a marked row.
  pub its_address : (rows : List Row) (address raise reset : ℕ) (out after : List ℕ) (p : Poll) → calls.polls_row rows address raise reset out 0 after
      → ReadsPoll (take 2 after) (Ok p) → p.address ≡ address
  pub never_both : (rows : List Row) (address raise reset : ℕ) (out after : List ℕ) (p : Poll) → calls.polls_row rows address raise reset out 0 after
      → ReadsPoll (take 2 after) (Ok p) → p.raise ≡ true → p.reset ≡ true → ⊥
  pub only_marked : (rows : List Row) (address raise reset : ℕ) (out after : List ℕ) (p : Poll) → calls.polls_row rows address raise reset out 0 after
      → ReadsPoll (take 2 after) (Ok p) → (p.raise || p.reset) ≡ true → Marked rows address
  -- No calls of a board begun empty make a poll raise or reset an address that was not enrolled with the mark.
  pub as-enrolled : (start rows : List Row) → Empty start → (h : History calls start rows) (address raise reset : ℕ) (out after : List ℕ) (p : Poll)
      → calls.polls_row rows address raise reset out 0 after → ReadsPoll (take 2 after) (Ok p) → (p.raise || p.reset) ≡ true
      → is6500 (gauge_given h address) ≡ true
  -- Removing clears profile and mark: enrolled again with gauge 0, a look tells gauge 0, and raise or reset is refused by 28.
  pub cleared : (rows one two : List Row) (settings address : ℕ) (told : Looked) → calls.removes rows address 0 one → calls.enrols one settings address 0 0 two
      → calls.looks_up two address told
      → (told.gauge ≡ 0) × ((raise reset answer : ℕ) (out after : List ℕ) → calls.polls_row two address raise reset out answer after
      → (is_set raise || is_set reset) ≡ true → answer ≡ 28)
