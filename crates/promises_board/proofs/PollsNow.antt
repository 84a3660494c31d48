-- A row's poll, of today's calls. One that answered 0 was of rows so kept, and is what it was of the board as it was. After any calls it is the poll of the
-- board beside it (`SameHistory`). An enrolment that answered 0 is looked at, and its row is the one that the look tells of.
use mathlib.Core.Path.{◌≡◌, refl, sym, ◌∙◌, ap, subst}
use mathlib.Core.Bool.{true, ◌||◌}
use mathlib.Core.List.{List}
use Prim.Native.Nat.{ℕ}
use native.Mathlib.Omega.{arith}
use Rattle.frame.specs.Kinds.{is_set}
use Rattle.board.specs.declared.Row.{Row}
use Rattle.board.specs.Gauge.{is6500}
use Rattle.board.specs.Rows.{board_of}
use Rattle.board.specs.Calls.{Enrols, PollsRow, enrol_number}
use Rattle.promises_order.specs.OldBoard.{OldEnrols, OldPollsRow}
use Rattle.promises_order.specs.Order.{SoKept, SameInUse}
use Rattle.promises_order.proofs.Boards.{same-poll, same_bytes}
use Rattle.promises_order.specs.Calls.{enrol, poll}
use Rattle.promises_order.proofs.Order.{board-order}
use Rattle.promises_order.specs.Calls.{today}
use Rattle.promises_board.specs.Polls.{BoardPoll}
use Rattle.promises_board.proofs.Done.{enrol-done}
use Rattle.promises_board.proofs.Polls.{refused-again, board-poll}
use Rattle.promises_board.proofs.Now.{by_order, enrol-so, enrolled-before, enrols-before, readings-now}
use Rattle.promises_board.proofs.SameHistory.{beside, on_both, row-both, does-then}

-- A poll that answered 0 was of rows so kept.
poll-so : (rows : List Row) (address raise reset : ℕ) (out after : List ℕ) → PollsRow rows address raise reset out 0 after → SoKept rows
poll-so rows address raise reset out after e =
    by_order rows (λ so. so) (λ none. let z : ◌≡◌ {A = ℕ} 0 38 = ap (λ (o : ℕ × List ℕ). o.0) (board-order.is_38 rows (poll address raise reset out) (0, after) rows none (e, refl)).0 in absurd (omega arith))

was : (rows : List Row) (address raise reset : ℕ) (out after : List ℕ) → PollsRow rows address raise reset out 0 after → OldPollsRow rows address raise reset out 0 after
was rows address raise reset out after e = (board-order.very_outcome rows (poll address raise reset out) (0, after) rows (poll-so rows address raise reset out after e) tt (e, refl)).0

-- A poll after rows have moved is that of the rows as they would have stood.
poll-moved : (before after : List Row) (address raise reset : ℕ) (out : List ℕ) (answer : ℕ) (bytes : List ℕ) → SameInUse before after → SoKept after → PollsRow after address raise reset out answer bytes → OldPollsRow before address raise reset out answer bytes
poll-moved before after address raise reset out answer bytes same so e =
    let f = (board-order.very_outcome after (poll address raise reset out) (answer, bytes) after so tt (e, refl)).0 in
    record {
      answers = f.answers ∙ sym (same-poll (board_of before) (board_of after) address (on_both before after same address) (row-both before after same address) raise reset out);
      leaves = f.leaves ∙ sym (same_bytes (board_of before) (board_of after) address (on_both before after same address) (row-both before after same address) raise reset out);
    }

-- Enrolled again with gauge 0.
again : (one two : List Row) (settings address : ℕ) → Enrols one settings address 0 0 two → (raise reset answer : ℕ) (out after : List ℕ) → PollsRow two address raise reset out answer after → (is_set raise || is_set reset) ≡ true → answer ≡ 28
again one two settings address e raise reset answer out after polls wanted =
    let so = enrol-so one settings address 0 two e in
    let before : List Row = enrolled-before one settings address 0 in
    let n : ℕ = enrol_number (board_of one) settings address 0 in
    let same = board-order.as_before one (enrol settings address 0) n 0 before two so (enrols-before one settings address 0) e in
    let enrols : OldEnrols one settings address 0 0 before = subst (λ (m : ℕ). OldEnrols one settings address 0 m before) same.0 (enrols-before one settings address 0) in
    refused-again one before settings address (enrol-done one settings address 0 0 before enrols) raise reset answer out after
    (poll-moved before two address raise reset out answer after same.1 (board-order.keeps one (enrol settings address 0) 0 two so e) polls) wanted

pub poll-now : BoardPoll today
poll-now =
    record {
      its_address = λ rows address raise reset out after p e reads. board-poll.its_address rows address raise reset out after p (was rows address raise reset out after e) reads;
      never_both = λ rows address raise reset out after p e reads. board-poll.never_both rows address raise reset out after p (was rows address raise reset out after e) reads;
      only_marked = λ rows address raise reset out after p e reads. board-poll.only_marked rows address raise reset out after p (was rows address raise reset out after e) reads;
      as-enrolled = λ start rows empty h address raise reset out after p e reads wanted.
          let b = beside start rows empty h in
          ap is6500 (sym (b.same-gauge address))
          ∙ board-poll.as-enrolled start b.rows empty b.then address raise reset out after p (does-then start b.rows rows empty b.calls (poll address raise reset out) (0, after) rows (e, refl)).0 reads wanted;
      cleared = λ rows one two settings address told removes enrols looks. ((readings-now.started one two settings address 0 told enrols looks).7, again one two settings address enrols);
    }
