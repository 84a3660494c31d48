-- What is never read: rows that differ only in what stands in their free rows, or past the thirtieth, get the same answers, and the same rows after.
-- Whatever rows they are: whether they are so kept hangs on rows in use alone.
use Rattle.std.specs.Prelude.{◌≡◌, List, map}
use Rattle.frame.specs.Pick.{pick}
use Rattle.board.specs.declared.Row.{Row}
use Rattle.board.specs.Row.{is_free, free_row}
use Rattle.board.specs.Rows.{board_of}
use Rattle.promises_order.specs.Calls.{today, Call, Answer, Does}

-- A row with nothing left in it where it is free.
abbrev pub cleared : Row → Row
cleared row = pick (is_free row) free_row row

-- Two boards alike but for what stands in free rows.
abbrev pub AlikeButFree : List Row → List Row → Type 0
AlikeButFree rows others = map cleared (board_of rows) ≡ map cleared (board_of others)

pub record BoardFree : Type 0 where
  pub any_call : (rows others after later : List Row) (c : Call) (a b : Answer c) → AlikeButFree rows others → Does today rows c a after
      → Does today others c b later → (a ≡ b) × AlikeButFree after later
