-- The view of a board: what a look tells of each address. In which row an address stands, what stands in a free row and bytes that no look tells are
-- no part of it. Boards of one view answer every call alike and are of one view after it, so that two boards may be compared but for places.
-- One thing no look tells, and it is asked for beside the view: whether a row is free, on which an enrolment hangs. Of rows not so kept every look is
-- refused by 38, so that two such boards are of one view, and none of them is of one view with rows so kept.
use Rattle.std.specs.Prelude.{◌≡◌, List, [], ◌∷◌, ℕ, suc, ◌≤◌, min, length}
use Rattle.frame.specs.Pick.{pick}
use Rattle.board.specs.declared.Looked.{Looked}
use Rattle.board.specs.declared.Row.{Row}
use Rattle.board.specs.Row.{is_free}
use Rattle.board.specs.Rows.{board_of, row_of, has_free}
use Rattle.board.specs.Order.{if_in_order}
use Rattle.board.specs.Calls.{LooksUp, looked_at, refused_look}
use Rattle.promises_order.specs.Places.{Empty}
use Rattle.promises_order.specs.Order.{SoKept}
use Rattle.promises_order.specs.Calls.{today, Call, enrol, hear, remove, look_up, poll, Answer, Does}

-- What a look tells of an address, and two boards of which every look tells the same.
abbrev pub view : List Row → ℕ → Looked
view rows address = if_in_order (board_of rows) (looked_at (board_of rows) address) (refused_look 38)

abbrev pub SameView : List Row → List Row → Type 0
SameView rows others = (address : ℕ) → view rows address ≡ view others address

-- Both have a free row, or neither.
abbrev pub FreeAlike : List Row → List Row → Type 0
FreeAlike rows others = has_free (board_of rows) ≡ has_free (board_of others)

-- The free rows of a board, counted.
unfoldable pub free_in : List Row → ℕ
free_in [] = 0
free_in (row ∷ rows) = pick (is_free row) (suc (free_in rows)) (free_in rows)

abbrev pub AsManyFree : List Row → List Row → Type 0
AsManyFree rows others = free_in (board_of rows) ≡ free_in (board_of others)

-- What a call asks beside the view: an enrolment a free row on both or on neither, and no other call anything.
abbrev pub FreeFor : Call → List Row → List Row → Type 0
FreeFor (enrol settings address gauge) rows others = FreeAlike rows others
FreeFor (hear minute address count reply) rows others = Unit {0}
FreeFor (remove address) rows others = Unit {0}
FreeFor (look_up address) rows others = Unit {0}
FreeFor (poll address raise reset out) rows others = Unit {0}

-- Two boards side by side: the same calls, the latest last, are made of both, each with an outcome that its contract allows.
pub data SideBySide (start begin : List Row) : List Row → List Row → Type 0 where
  both_begun : SideBySide start begin start begin
  both_call : {rows others after later : List Row} (c : Call) (a b : Answer c) → SideBySide start begin rows others
      → Does today rows c a after → Does today others c b later → SideBySide start begin after later

-- Every call of both was answered alike.
abbrev pub AnsweredAlike : {start begin rows others : List Row} → SideBySide start begin rows others → Type 0
AnsweredAlike both_begun = Unit {0}
AnsweredAlike (both_call c a b calls e f) = (a ≡ b) × AnsweredAlike calls

pub record BoardView : Type 0 where
  -- The view is what a look tells.
  pub told : (rows : List Row) (address : ℕ) (answer : Looked) → LooksUp rows address answer → answer ≡ view rows address
  -- Boards so kept on which each address has the same row, wherever it stands, or none on both, are of one view.
  pub wherever : (rows others : List Row) → SoKept rows → SoKept others
      → ((address : ℕ) → address ≤ 999 → row_of address (board_of rows) ≡ row_of address (board_of others))
      → SameView rows others
  -- One call of two boards of one view.
  pub one-call : (rows others after later : List Row) (c : Call) (a b : Answer c) → SameView rows others → FreeFor c rows others
      → Does today rows c a after → Does today others c b later → (a ≡ b) × SameView after later
  -- Any calls of two boards of one view with as many free rows: every answer is the same, and so is the view at the end.
  pub any_calls : (start begin rows others : List Row) → SameView start begin → AsManyFree start begin
      → (calls : SideBySide start begin rows others) → AnsweredAlike calls × SameView rows others × AsManyFree rows others
  -- Such are any two boards begun empty with as many rows that count, whatever stood in them.
  pub begun_empty : (start begin : List Row) → Empty start → Empty begin → min 30 (length start) ≡ min 30 (length begin)
      → SameView start begin × AsManyFree start begin
