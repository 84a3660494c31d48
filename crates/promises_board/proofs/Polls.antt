-- A row's poll. Where it answers 0 none of its tests holds, and its first 2 bytes are what the writer of polls leaves, which reads back; so what is read was
-- asked, and was not refused. That a mark was given at enrolment is an invariant of any calls: each row in use holds the gauge that its address was
-- enrolled with last.
use mathlib.Core.Path.{◌≡◌, refl, sym, ◌∙◌, ap, subst}
use mathlib.Core.Bool.{Bool, true, false, not, ◌&&◌, ◌||◌}
use mathlib.Core.List.{List, ◌++◌}
use Prim.Native.Nat.{ℕ, ◌<◌, ◌≤◌}
use native.Mathlib.Omega.{arith}
use lib.Dec.{eqb}
use lib.ListN.{length, take, drop}
use borrow.Author.Tests.{eqb-true, eqb-false, eq-eqb, ne_eqb, ltb-true, ltb-false, not-false}
use Rattle.frame.specs.declared.Poll.{Poll}
use Rattle.frame.specs.Kinds.{is_set}
use Rattle.frame.specs.Line.{first_bytes}
use Rattle.frame.specs.Pick.{pick}
use Rattle.frame.specs.Poll.{ReadsPoll, WritesPoll, write_poll_fault, poll_line}
use Rattle.board.specs.declared.Heard.{Heard}
use Rattle.board.specs.declared.Row.{Row}
use Rattle.board.specs.Gauge.{is6500, unmarked, at_once}
use Rattle.board.specs.Row.{is_in_use, free_row, new_row}
use Rattle.board.specs.Rows.{board_of, place_of, place_free, on_board, row_of}
use Rattle.board.specs.Calls.{row_poll_bytes}
use Rattle.promises_order.specs.OldBoard.{OldPollsRow as PollsRow}
use Rattle.promises_frame.proofs.FirstFault.{AllClear, all-clear}
use Rattle.promises_frame.proofs.Polls.{poll-then-read}
use Rattle.promises_order.specs.Places.{row_at, OnBoard, Empty}
use Rattle.promises_board.specs.Calls.{IsRowOf, OnlyRow}
use Rattle.promises_order.specs.Calls.{as_it_was, Call, enrol, hear, remove, look_up, poll, Answer, Does}
use Rattle.promises_board.specs.History.{History, begun, called}
use Rattle.promises_board.specs.Orders.{row_poll_table}
use Rattle.promises_board.specs.Polls.{gauge_by, Marked, gauge_given, BoardPoll}
use Rattle.promises_board.proofs.Tests.{differs, and-false, neither-of}
use Rattle.promises_board.proofs.Places.{place-row, row_is}
use Rattle.promises_board.proofs.Calls.{poll-promise}
use Rattle.promises_board.proofs.Done.{set-only, Enrolled, not-enrolled, took, enrol-done, Removed, not_removed, gave, remove-done, HearDone, not-heard, faulty, good, hear-done}
use Rattle.promises_board.proofs.Orders.{poll_rest, poll-asks}
use Rattle.promises_board.proofs.Readings.{still, board-readings}
use Rattle.std.specs.Prelude.{Result, Ok, Err}
use Rattle.frame.specs.declared.faults.Fault.{Fault}
use Rattle.frame.specs.Faults.{fault}

-- the poll in an answer
abbrev poll_in : Poll → Result Poll Fault → Poll
poll_in p (Ok q) = q
poll_in p (Err f) = p

-- A poll that was written.
module _ (rows : List Row) (address raise reset : ℕ) (out after : List ℕ) (e : PollsRow rows address raise reset out 0 after) where
  clear : AllClear (row_poll_table rows address raise reset out) poll_rest
  clear = all-clear (row_poll_table rows address raise reset out) poll_rest (omega arith, (omega arith, (omega arith, (omega arith, tt)))) (sym (poll-asks rows address raise reset out) ∙ sym e.answers)

  in-range : address ≤ 999
  in-range = ltb-false 999 address clear.0

  long : 2 ≤ length out
  long = ltb-false (length out) 2 clear.1.1.1.0

  on : place_of address (board_of rows) < length (board_of rows)
  on = ltb-true (place_of address (board_of rows)) (length (board_of rows)) (not-false (on_board address (board_of rows)) clear.1.0)

  row-of : IsRowOf rows address (place_of address (board_of rows))
  row-of = place-row rows address on

  refusals : (unmarked (row_of address (board_of rows)).gauge raise reset ≡ false) × (at_once raise reset ≡ false)
  refusals = neither-of (unmarked (row_of address (board_of rows)).gauge raise reset) (at_once raise reset) clear.1.1.0

  write-0 : write_poll_fault address out ≡ 0
  unfolding write_poll_fault
  write-0 = simp (clear.0, clear.1.1.1.0)

  writes : WritesPoll address (is_set raise) (is_set reset) out (Ok 2) after
  unfolding row_poll_bytes
  writes =
      let z = write-0 in
      record {
        answers = sym (ap (λ (n : ℕ). pick (eqb n 0) (Ok 2) (Err (fault n))) z);
        leaves = e.leaves ∙ ap (λ (n : ℕ). pick (eqb n 0) (first_bytes 2 (poll_line address (is_set raise) (is_set reset)) ++ drop 2 out) out) (sym e.answers ∙ sym z);
      }

  abbrev asked : Poll
  asked = record { address = address; raise = is_set raise; reset = is_set reset }

  -- what is read was asked
  same : (p : Poll) → ReadsPoll (take 2 after) (Ok p) → p ≡ asked
  same p reads = ap (poll_in asked) (poll-then-read asked in-range (take 2 after) (record { out = out; after = after; said = Ok 2; long_enough = long; call = writes; first = refl }) (Ok p) reads).1

  not-both : (p : Poll) → ReadsPoll (take 2 after) (Ok p) → p.raise ≡ true → p.reset ≡ true → ⊥
  not-both p reads r s =
      let q = same p reads in
      let a : is_set raise ≡ true = sym (ap (λ (x : Poll). x.raise) q) ∙ r in
      let b : is_set reset ≡ true = sym (ap (λ (x : Poll). x.reset) q) ∙ s in
      differs (ap (λ (t : Bool). t && is_set reset) a ∙ b) refusals.1

  marked : (p : Poll) → ReadsPoll (take 2 after) (Ok p) → (p.raise || p.reset) ≡ true → Marked rows address
  marked p reads r =
      record {
        at = place_of address (board_of rows);
        row = row-of;
        mark = ap (λ (x : Row). is6500 x.gauge) (sym (row_is rows address (place_of address (board_of rows)) row-of)) ∙ go (is6500 (row_of address (board_of rows)).gauge) refusals.0;
      }
    where
      wanted : (is_set raise || is_set reset) ≡ true
      wanted = sym (ap (λ (x : Poll). x.raise || x.reset) (same p reads)) ∙ r

      go : (t : Bool) → (not t && (is_set raise || is_set reset)) ≡ false → t ≡ true
      go true f = refl
      go false f = absurd (differs wanted f)

-- Each row in use holds the gauge that its address was enrolled with.
abbrev Held : List Row → (ℕ → ℕ) → Type 0
Held rows given = (i : ℕ) → OnBoard rows i → is_in_use (row_at rows i) ≡ true → (row_at rows i).gauge ≡ given (row_at rows i).address

module _ (rows after : List Row) (given : ℕ → ℕ) (held : Held rows given) where
  held_same : after ≡ rows → Held after given
  held_same e = subst (λ (zs : List Row). Held zs given) (sym e) held

  -- one row was set, to one that holds it if it is in use
  held-set : (k : ℕ) (row : Row) → OnlyRow rows k row after → (is_in_use row ≡ true → row.gauge ≡ given row.address) → Held after given
  held-set k row only own i on used = go (eqb i k) refl
    where
      go : (t : Bool) → eqb i k ≡ t → (row_at after i).gauge ≡ given (row_at after i).address
      go true t =
          let is : row_at after i ≡ row = ap (row_at after) (eqb-true i k t) ∙ only.own in
          ap (λ (r : Row). r.gauge) is ∙ own (sym (ap is_in_use is) ∙ used) ∙ ap given (sym (ap (λ (r : Row). r.address) is))
      go false t =
          let is : row_at after i ≡ row_at rows i = only.others i (eqb-false i k t) in
          ap (λ (r : Row). r.gauge) is
          ∙ held i (record { counts = on.counts; lent = omega (arith, on.lent, only.as_many) }) (sym (ap is_in_use is) ∙ used)
          ∙ ap given (sym (ap (λ (r : Row). r.address) is))

  held-remove : (address answer : ℕ) → Removed rows address answer after → Held after given
  held-remove address answer (not_removed z e) = held_same e
  held-remove address answer (gave z a p e) = held-set (place_of address (board_of rows)) free_row (set-only rows after (place_of address (board_of rows)) free_row p.place e) (λ u. absurd (differs u refl))

  held-hear : (minute address count : ℕ) (reply : List ℕ) (answer : Heard) → HearDone rows minute address count reply answer after → Held after given
  held-hear minute address count reply answer (not-heard z f e) = held_same e
  held-hear minute address count reply answer (faulty f a p e n) = held-set (place_of address (board_of rows)) _ (set-only rows after (place_of address (board_of rows)) _ p.place e) (λ u. held (place_of address (board_of rows)) p.place p.here.used)
  held-hear minute address count reply answer (good z a p f e) = held-set (place_of address (board_of rows)) _ (set-only rows after (place_of address (board_of rows)) _ p.place e) (λ u. held (place_of address (board_of rows)) p.place p.here.used)

-- An enrolment gives an address its gauge; the rows of other addresses hold theirs still.
module _ (rows after : List Row) (given : ℕ → ℕ) (held : Held rows given) (settings a gauge answer : ℕ) where
  abbrev next : ℕ → ℕ
  next address = pick (eqb a address && eqb answer 0) gauge (given address)

  held-enrol : Enrolled rows settings a gauge answer after → Held after next
  held-enrol (not-enrolled z e) = λ i there used.
      held_same rows after given held e i there used
      ∙ sym (ap (λ (t : Bool). pick (eqb a (row_at after i).address && t) gauge (given (row_at after i).address)) z
      ∙ ap (λ (t : Bool). pick t gauge (given (row_at after i).address)) (and-false (eqb a (row_at after i).address)))
  held-enrol (took z x u p e) =
      held-set rows after next others (place_free (board_of rows)) (new_row settings a gauge) (set-only rows after (place_free (board_of rows)) (new_row settings a gauge) p.place e)
      (λ _. sym (ap (λ (t : Bool). pick (t && eqb answer 0) gauge (given a)) (eq-eqb a a refl) ∙ ap (λ (t : Bool). pick t gauge (given a)) (eq-eqb answer 0 z)))
    where
      others : Held rows next
      others i on used =
          held i on used
          ∙ sym (ap (λ (t : Bool). pick (t && eqb answer 0) gauge (given (row_at rows i).address)) (ne_eqb a (row_at rows i).address (λ same. u i on (record { used = used; same = sym same }))))

held-call : (rows : List Row) (c : Call) (answer : Answer c) (after : List Row) → Does as_it_was rows c answer after → (given : ℕ → ℕ) → Held rows given → Held after (λ address. gauge_by c answer address (given address))
held-call rows (enrol settings a gauge) answer after e given held = held-enrol rows after given held settings a gauge answer (enrol-done rows settings a gauge answer after e)
held-call rows (hear minute a count reply) answer after e given held = held-hear rows after given held minute a count reply answer (hear-done rows minute a count reply answer after e)
held-call rows (remove a) answer after e given held = held-remove rows after given held a answer (remove-done rows a answer after e)
held-call rows (look_up a) answer after e given held = held_same rows after given held e.1
held-call rows (poll a raise reset out) answer after e given held = held_same rows after given held e.1

held_of : (start rows : List Row) → Empty start → (h : History as_it_was start rows) → Held rows (gauge_given h)
unfolding gauge_given
held_of start now empty begun = λ i there used. absurd (differs used (ap not (empty i there)))
held_of start now empty (called {rows} c answer h e) = held-call rows c answer now e (gauge_given h) (held_of start rows empty h)

as-enrolled : (start rows : List Row) → Empty start → (h : History as_it_was start rows) (address : ℕ) → Marked rows address → is6500 (gauge_given h address) ≡ true
as-enrolled start rows empty h address m =
    ap is6500 (ap (gauge_given h) (sym m.row.here.same) ∙ sym (held_of start rows empty h m.at m.row.place m.row.here.used)) ∙ m.mark

-- Enrolled again with gauge 0.
pub refused-again : (one two : List Row) (settings address : ℕ) → Enrolled one settings address 0 0 two → (raise reset answer : ℕ) (out after : List ℕ) → PollsRow two address raise reset out answer after → (is_set raise || is_set reset) ≡ true → answer ≡ 28
refused-again one two settings address (not-enrolled z e) raise reset answer out after polls wanted = absurd (eqb-false 0 0 z refl)
refused-again one two settings address (took z a u p e) raise reset answer out after polls wanted =
    let k : ℕ = place_free (board_of one) in
    let only = set-only one two k (new_row settings address 0) p.place e in
    let there = still one two address k (new_row settings address 0) only p.place (record { used = refl; same = refl }) (λ j l h. u j (record { counts = omega (arith, p.place.counts); lent = omega (arith, p.place.lent) }) h) in
    ((poll-promise two address raise reset out answer after polls).unmarked a k there wanted (ap (λ (r : Row). is6500 r.gauge) only.own)).0

pub board-poll : BoardPoll as_it_was
board-poll =
    record {
      its_address = λ rows address raise reset out after p e reads. ap (λ (x : Poll). x.address) (same rows address raise reset out after e p reads);
      never_both = λ rows address raise reset out after p e reads. not-both rows address raise reset out after e p reads;
      only_marked = λ rows address raise reset out after p e reads. marked rows address raise reset out after e p reads;
      as-enrolled = λ start rows empty h address raise reset out after p e reads wanted. as-enrolled start rows empty h address (marked rows address raise reset out after e p reads wanted);
      cleared = λ rows one two settings address told removes enrols looks. (
        (board-readings.started one two settings address 0 told enrols looks).7,
        refused-again one two settings address (enrol-done one settings address 0 0 two enrols),
      );
    }
