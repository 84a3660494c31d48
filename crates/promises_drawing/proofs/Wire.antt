-- A poll on the wire: the very bytes are handed over, and they read as the poll by the promise of polls. What a row's poll leaves is what the writer of
-- polls leaves.
use mathlib.Core.Path.{◌≡◌, refl, sym, ap, ap₂, subst, ◌∙◌}
use mathlib.Core.Bool.{Bool, true, false, not}
use mathlib.Core.List.{List, ◌++◌}
use Prim.Native.Nat.{ℕ, ◌≤◌}
use native.Mathlib.Omega.{arith}
use borrow.Author.Tests.{ltb-false}
use lib.Dec.{eqb, ltb}
use lib.ListN.{length, drop}
use Rattle.frame.specs.declared.Poll.{Poll}
use Rattle.frame.specs.Kinds.{is_set}
use Rattle.frame.specs.Line.{first_bytes}
use Rattle.frame.specs.Pick.{pick}
use Rattle.frame.specs.Faults.{first_of, fault}
use Rattle.frame.specs.Poll.{ReadsPoll, WritesPoll, write_poll_fault, poll_line}
use Rattle.board.specs.declared.Row.{Row}
use Rattle.board.specs.Gauge.{unmarked, at_once}
use Rattle.board.specs.Rows.{board_of, on_board, row_of}
use Rattle.board.specs.Order.{in_address_order}
use Rattle.board.specs.Calls.{row_poll_number, row_poll_bytes, PollsRow}
use Rattle.promises_frame.proofs.Polls.{poll-then-read}
use Rattle.promises_drawing.specs.Wire.{PollBytes, written, of_a_row, PollOnTheWire}
use Rattle.promises_drawing.proofs.Heard.{drawn-and-heard}
use Rattle.std.specs.Prelude.{Result, Ok, Err}
use Rattle.frame.specs.declared.faults.Fault.{Fault}

-- Five tests of which none gave its number, and the board's order before them.
clear : (k a b c d e : Bool) → ◌≡◌ {A = ℕ} 0 (pick k (pick a 11 (pick b 17 (pick c 28 (pick d 28 (pick e 15 0))))) 38)
    → (k ≡ true) × (a ≡ false) × (e ≡ false) × (◌≡◌ {A = ℕ} (pick a 11 (pick b 17 (pick c 28 (pick d 28 (pick e 15 0))))) 0)
clear false a b c d e z = absurd (omega arith)
clear true true b c d e z = absurd (omega arith)
clear true false true c d e z = absurd (omega arith)
clear true false false true d e z = absurd (omega arith)
clear true false false false true e z = absurd (omega arith)
clear true false false false false true z = absurd (omega arith)
clear true false false false false false z = (refl, refl, refl, refl)

module _ (rows : List Row) (address raise reset : ℕ) (out after : List ℕ) (c : PollsRow rows address raise reset out 0 after) where
  abbrev board : List Row
  board = board_of rows

  tests : (in_address_order board ≡ true) × (ltb 999 address ≡ false) × (ltb (length out) 2 ≡ false) × (row_poll_number board address raise reset out ≡ 0)
  unfolding row_poll_number
  tests =
      clear (in_address_order board) (ltb 999 address) (not (on_board address board)) (unmarked (row_of address board).gauge raise reset) (at_once raise reset)
      (ltb (length out) 2) c.answers

  left : after ≡ first_bytes 2 (poll_line address (is_set raise) (is_set reset)) ++ drop 2 out
  unfolding row_poll_bytes
  left =
      let whole : List ℕ = first_bytes 2 (poll_line address (is_set raise) (is_set reset)) ++ drop 2 out in
      c.leaves ∙ ap (λ (k : Bool). pick k (row_poll_bytes board address raise reset out) out) tests.0
      ∙ ap (λ (n : ℕ). pick (eqb n 0) whole out) tests.3

  write-0 : write_poll_fault address out ≡ 0
  unfolding write_poll_fault first_of
  write-0 = ap₂ (λ (x y : Bool). pick x 11 (pick y 15 0)) tests.1 tests.2

  pub row-writes : WritesPoll address (is_set raise) (is_set reset) out (Ok 2) after
  row-writes =
      let whole : List ℕ = first_bytes 2 (poll_line address (is_set raise) (is_set reset)) ++ drop 2 out in
      record {
        answers = sym (ap (λ (n : ℕ). pick (eqb n 0) (Ok 2) (Err (fault n))) write-0);
        leaves = left ∙ sym (ap (λ (n : ℕ). pick (eqb n 0) whole out) write-0);
      }

  pub in-range : (address ≤ 999) × (2 ≤ length out)
  in-range = (ltb-false 999 address tests.1, ltb-false (length out) 2 tests.2)

-- The bytes of a poll read as that poll.
reads-back : (p : Poll) (bytes : List ℕ) → PollBytes p bytes → (got : Result Poll Fault) → ReadsPoll bytes got → got ≡ Ok p
reads-back p bytes (written h left) got r = (poll-then-read p h bytes left got r).1
reads-back p bytes (of_a_row rows raise reset out after c e f first) got r =
    let in-r = in-range rows p.address raise reset out after c in
    (poll-then-read p in-r.0 bytes
    (record {
      out = out;
      after = after;
      said = Ok 2;
      long_enough = in-r.1;
      call =
          subst (λ (b : Bool). WritesPoll p.address b p.reset out (Ok 2) after) (sym e)
          (subst (λ (b : Bool). WritesPoll p.address (is_set raise) b out (Ok 2) after) (sym f) (row-writes rows p.address raise reset out after c));
      first = first;
    })
    got r).1

pub poll-on-the-wire : PollOnTheWire
poll-on-the-wire =
    record {
      read = λ p bytes pb t low still sent sp earlier batch rest s a h c some e got r.
          reads-back p bytes pb got
          (subst (λ (l : List ℕ). ReadsPoll l got) (drawn-and-heard.handed t low still 16 bytes sent sp earlier batch rest s a h c some e).2 r);
    }
