-- Rows so kept over any calls: they stay so, and no call is refused by 38.
use Rattle.std.specs.Prelude.{◌≡◌, List}
use Rattle.board.specs.declared.Row.{Row}
use Rattle.promises_order.specs.Places.{Empty}
use Rattle.promises_order.specs.Order.{SoKept}
use Rattle.promises_order.specs.Calls.{Records, today, number_answered}
use Rattle.promises_board.specs.History.{History, begun, called}

-- No call of a history answered 38.
abbrev pub NoneIs38 : {calls : Records} {start rows : List Row} → History calls start rows → Type 0
NoneIs38 begun = Unit {0}
NoneIs38 (called c answer h e) = (number_answered c answer ≡ 38 → ⊥) × NoneIs38 h

-- Begun with rows so kept, an empty board among them, any calls leave them so, and none is refused by 38.
pub record BoardStaysKept : Type 0 where
  pub empty : (start : List Row) → Empty start → SoKept start
  pub so-kept : (start rows : List Row) → SoKept start → History today start rows → SoKept rows
  pub never_38 : (start rows : List Row) → SoKept start → (h : History today start rows) → NoneIs38 h
