-- Any sequence of today's calls. Rows so kept stay so by `BoardOrder`, one call after another, and none of them is answered 38; addresses that rise stand
-- once each. That the rows stay as many, and those past the thirtieth what they were, is so of each call, whatever rows were lent. Room is that of the
-- history beside it (`SameHistory`).
use mathlib.Core.Path.{◌≡◌, refl, ◌∙◌, ap}
use mathlib.Core.Bool.{true, false}
use mathlib.Core.List.{List}
use Prim.Native.Nat.{ℕ, ◌+◌, ◌<◌, ◌≤◌, min}
use native.Mathlib.Omega.{arith}
use lib.ListN.{length}
use borrow.Author.Tests.{ltb-false, le-ltb, not-true}
use Rattle.board.specs.declared.Row.{Row}
use Rattle.board.specs.Gauge.{profile_misplaced}
use Rattle.board.specs.Row.{is_free, is_in_use}
use Rattle.board.specs.Rows.{board_of, place_of}
use Rattle.board.specs.Calls.{Enrols}
use Rattle.board.proofs.Order.{neither}
use Rattle.promises_order.specs.Places.{row_at, OnBoard, Empty}
use Rattle.promises_order.specs.Order.{SoKept, Past, SameInUse}
use Rattle.promises_order.proofs.Order.{said, left-then, has-then, board-order}
use Rattle.promises_frame.proofs.Cases.{by-lt}
use Rattle.promises_order.specs.Calls.{today, Call, enrol, Answer, Does}
use Rattle.promises_board.specs.Calls.{Unknown}
use Rattle.promises_board.specs.History.{History, begun, called, NoneTwice, rows_taken, given, BoardHistory}
use Rattle.promises_board.specs.Kept.{NoneIs38, BoardStaysKept}
use Rattle.promises_board.proofs.Places.{unknown-off}
use Rattle.promises_board.proofs.Done.{off-unknown}
use Rattle.promises_board.proofs.History.{Step, call_step, step-many, step-beyond, board-history}
use Rattle.promises_board.proofs.Now.{by_order}
use Rattle.promises_board.proofs.SameHistory.{Beside, beside, same-in-use, on_both, does-then}

-- What stays of any rows.
pub same-past : (rows after : List Row) → after ≡ rows → Past rows after
same-past rows after e = record { as_many = ap length e; beyond = λ i l. ap (λ (zs : List Row). row_at zs i) e }

step_past : {rows after : List Row} → Step rows after → Past rows after
step_past s = record { as_many = step-many s; beyond = step-beyond s }

then-past : {rows before after : List Row} → Past rows before → Past before after → Past rows after
then-past p q = record { as_many = q.as_many ∙ p.as_many; beyond = λ i l. q.beyond i l ∙ p.beyond i l }

pub call-past : (rows : List Row) (c : Call) (answer : Answer c) (after : List Row) → Does today rows c answer after → Past rows after
call-past rows c answer after e =
    by_order rows
    (λ so. then-past (step_past (call_step rows c (said (board_of rows) c) (left-then rows c) (has-then rows c)))
    (board-order.as_before rows c (said (board_of rows) c) answer (left-then rows c) after so (has-then rows c) e).2)
    (λ none. same-past rows after (board-order.is_38 rows c answer after none e).1)

past_of : (start now : List Row) → History today start now → Past start now
past_of start now begun = same-past start now refl
past_of start now (called {rows} c answer h e) = then-past (past_of start rows h) (call-past rows c answer now e)

-- Rows so kept.
pub empty-kept : (start : List Row) → Empty start → SoKept start
empty-kept start empty = record { front = λ i j l on u. absurd (free j on u); rising = λ i j l on u. absurd (free j on u) }
  where
    free : (j : ℕ) → OnBoard start j → is_in_use (row_at start j) ≡ true → ⊥
    free j on u = neither (empty j on) (not-true (is_free (row_at start j)) u)

pub kept_of : (start now : List Row) → SoKept start → History today start now → SoKept now
kept_of start now so begun = so
kept_of start now so (called {rows} c answer h e) = board-order.keeps rows c answer now (kept_of start rows so h) e

none-38 : (start now : List Row) → SoKept start → (h : History today start now) → NoneIs38 h
none-38 start now so begun = tt
none-38 start now so (called {rows} c answer h e) = (board-order.only_38 rows c answer now (kept_of start rows so h) e, none-38 start rows so h)

pub stays-kept : BoardStaysKept
stays-kept = record { empty = empty-kept; so-kept = kept_of; never_38 = none-38 }

-- Addresses that rise stand once each.
pub kept-once : (rows : List Row) → SoKept rows → NoneTwice rows
kept-once rows so i j address p q h k =
    by-lt i j (λ l. absurd (omega (arith, so.rising i j l q k.used, h.same, k.same)))
    (λ l. by-lt j i (λ m. absurd (omega (arith, so.rising j i m p h.used, h.same, k.same))) (λ m. omega (arith, l, m)))

-- An address that is unknown was so of the board beside it.
pub unknown-then : (rows others : List Row) → SameInUse rows others → (address : ℕ) → Unknown others address → Unknown rows address
unknown-then rows others same address u =
    let l : length (board_of others) ≤ place_of address (board_of others) = unknown-off others address u in
    off-unknown rows address (ltb-false (place_of address (board_of rows)) (length (board_of rows)) (on_both rows others same address ∙ le-ltb (place_of address (board_of others)) (length (board_of others)) l))

module _ (start others after : List Row) (h : History today start others) (settings address gauge answer : ℕ) (empty : Empty start) (s : settings ≤ 15) (a : address ≤ 999) (m : profile_misplaced settings gauge ≡ false) (u : Unknown others address) (e : Enrols others settings address gauge answer after) where
  abbrev b : Beside start others h
  b = beside start others empty h

  unknown : Unknown b.rows address
  unknown = unknown-then b.rows others (same-in-use start others empty h) address u

  room : rows_taken h < given h + min 30 (length start) → answer ≡ 0
  room l =
      board-history.room start b.rows (left-then b.rows (enrol settings address gauge)) b.then settings address gauge answer empty s a m unknown (does-then start b.rows others empty b.calls (enrol settings address gauge) answer after e)
      (omega (arith, l, b.same_taken, b.same_given))

  full : given h + min 30 (length start) ≤ rows_taken h → answer ≡ 19
  full l =
      board-history.full start b.rows (left-then b.rows (enrol settings address gauge)) b.then settings address gauge answer empty s a m unknown (does-then start b.rows others empty b.calls (enrol settings address gauge) answer after e)
      (omega (arith, l, b.same_taken, b.same_given))

pub history-now : BoardHistory today
history-now =
    record {
      none-twice = λ start rows empty h. kept-once rows (kept_of start rows (empty-kept start empty) h);
      as_many = λ start rows h. (past_of start rows h).as_many;
      beyond = λ start rows h. (past_of start rows h).beyond;
      room = room;
      full = full;
    }
