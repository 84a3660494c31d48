-- Every history of today's calls from an empty board has one of the board as it was beside it: the same calls with the same answers, and the same rows in
-- use. Each call of the board as it was has an outcome, and by `BoardOrder` its answer is the one that was given; so what is counted over the one history is
-- what is counted over the other, step by step. This is what carries the promises over.
use mathlib.Core.Path.{◌≡◌, refl, sym, ◌∙◌, ap, subst}
use mathlib.Core.List.{List}
use Prim.Native.Nat.{ℕ}
use Rattle.board.specs.declared.Row.{Row}
use Rattle.board.specs.Rows.{board_of, row_of, on_board}
use Rattle.promises_order.specs.Places.{Empty}
use Rattle.promises_order.specs.Order.{SameCalls, begin, call, SameInUse}
use Rattle.promises_order.proofs.Held.{row-of, on-held, first, some}
use Rattle.promises_order.proofs.Order.{said, left-then, has-then, board-order}
use Rattle.promises_order.specs.Calls.{today, as_it_was, Call, Answer, Does}
use Rattle.promises_board.specs.History.{History, begun, called, taken_by, given_by, rows_taken, given}
use Rattle.promises_board.specs.Since.{since_by, latest_by, since, latest}
use Rattle.promises_board.specs.Polls.{gauge_by, gauge_given}

-- One call of the board as it was beside one of today: its outcome, with the answer that was given.
module _ (start rows others : List Row) (empty : Empty start) (calls : SameCalls start rows others) where
  pub does-then : (c : Call) (answer : Answer c) (after : List Row) → Does today others c answer after → Does as_it_was rows c answer (left-then rows c)
  does-then c answer after e =
      subst (λ (a : Answer c). Does as_it_was rows c a (left-then rows c))
      (board-order.same_answers start (left-then rows c) after empty (call c (said (board_of rows) c) answer calls (has-then rows c) e)).0.0 (has-then rows c)

-- The history beside it.
pub record Beside (start others : List Row) (h : History today start others) : Type 0 where
  pub rows : List Row
  pub then : History as_it_was start rows
  pub calls : SameCalls start rows others
  pub same_taken : rows_taken then ≡ rows_taken h
  pub same_given : given then ≡ given h
  pub same_since : (address : ℕ) → since then address ≡ since h address
  pub same_latest : (address : ℕ) → latest then address ≡ latest h address
  pub same-gauge : (address : ℕ) → gauge_given then address ≡ gauge_given h address

pub beside : (start others : List Row) → Empty start → (h : History today start others) → Beside start others h
unfolding rows_taken given since latest gauge_given
beside start others empty begun =
    record { rows = start; then = begun; calls = begin; same_taken = refl; same_given = refl; same_since = λ a. refl; same_latest = λ a. refl; same-gauge = λ a. refl }
beside start after empty (called {rows} c answer h e) =
    let b = beside start rows empty h in
    let f = does-then start b.rows rows empty b.calls c answer after e in
    record {
      rows = left-then b.rows c;
      then = called c answer b.then f;
      calls = call c answer answer b.calls f e;
      same_taken = ap (taken_by c answer) b.same_taken;
      same_given = ap (given_by c answer) b.same_given;
      same_since = λ a. ap (since_by c answer a) (b.same_since a);
      same_latest = λ a. ap (latest_by c answer a) (b.same_latest a);
      same-gauge = λ a. ap (gauge_by c answer a) (b.same-gauge a);
    }

-- What is so of the two boards.
module _ (start others : List Row) (empty : Empty start) (h : History today start others) where
  pub same-in-use : SameInUse (beside start others empty h).rows others
  same-in-use = (board-order.same_answers start (beside start others empty h).rows others empty (beside start others empty h).calls).2

-- Boards with the same rows in use: an address is on both or on neither, and has the same row.
module _ (rows others : List Row) (same : SameInUse rows others) (address : ℕ) where
  pub on_both : on_board address (board_of rows) ≡ on_board address (board_of others)
  on_both = on-held address (board_of rows) ∙ ap some (same address) ∙ sym (on-held address (board_of others))

  pub row-both : row_of address (board_of rows) ≡ row_of address (board_of others)
  row-both = row-of address (board_of rows) ∙ ap first (same address) ∙ sym (row-of address (board_of others))
