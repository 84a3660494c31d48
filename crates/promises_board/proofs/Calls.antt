-- A hearing, a look and a row's poll keep their promises, of the board as it was: in each case the tests of document 01 give the number, the number gives
-- what is left of the board, and the row that was searched for is the row of the case. Today's calls are in `Now`; that each of the five has one outcome
-- is read off its record.
use mathlib.Core.Path.{◌≡◌, refl, sym, ◌∙◌, ap, subst}
use mathlib.Core.Bool.{Bool, true, false, not, ◌&&◌, ◌||◌}
use mathlib.Core.List.{List, ◌++◌}
use Prim.Native.Nat.{ℕ, ◌<◌, ◌≤◌}
use native.Mathlib.Omega.{arith}
use lib.Dec.{eqb}
use lib.ListN.{length, take, drop, set}
use borrow.Author.Tests.{eqb-false, lt-ltb, le-ltb}
use Rattle.frame.specs.declared.Reading.{Reading}
use Rattle.std.specs.Prelude.{Ok, Err}
use Rattle.frame.specs.declared.faults.Fault.{Fault}
use Rattle.frame.specs.declared.faults.Fault.TheVariants.{InNoChart}
use Rattle.frame.specs.Faults.{number_of, place_named, verdict}
use Rattle.frame.specs.Kinds.{is_set}
use Rattle.frame.specs.Line.{line, first_bytes, formed}
use Rattle.frame.specs.Pick.{pick}
use Rattle.frame.specs.Poll.{WritesPoll, write_poll_fault, poll_line, poll_of}
use Rattle.frame.specs.Level.{level_of, place_lost}
use Rattle.frame.specs.Reply.{ReadsReply, mode_in, reply_fault, reading_at}
use Rattle.board.specs.declared.Heard.{Heard}
use Rattle.board.specs.declared.Looked.{Looked}
use Rattle.board.specs.declared.Row.{Row}
use Rattle.board.specs.Gauge.{is6500, outside_by, unmarked, at_once}
use Rattle.board.specs.Row.{with_reading, with_fault, sets_fault, heard_at}
use Rattle.board.specs.Rows.{board_of, beyond, place_of, row_of}
use Rattle.board.specs.Calls.{heard_as, outside_at, hear_number, hear_place, row_told, row_poll_bytes}
use Rattle.promises_order.specs.OldBoard.{OldHears as Hears, OldLooksUp as LooksUp, OldPollsRow as PollsRow}
use Rattle.board.specs.Inside.ByValue.{may_poll}
use Rattle.board.proofs.Faults.{sets-by, sets-7, sets-26, not-10, not-11, not-14, not-17}
use Rattle.board.proofs.Numbers.{hear-11, hear-14, hear-17, read_number, read-refused, read-outside, read-good, hear-read, find-11, find-17, find-0, may-11, may-17, may-by, may-28, may-0, denied, or_poll, polled}
use Rattle.promises_order.specs.Places.{row_at}
use Rattle.promises_order.specs.Calls.{today, Call, enrol, hear, remove, look_up, poll, Answer, Does}
use Rattle.promises_order.proofs.Order.{board-order}
use Rattle.promises_frame.specs.One.{One}
use Rattle.promises_board.specs.Calls.{IsRowOf, OnlyRow, HearPromise, LookPromise, MayAsk, neither, to_raise, to_reset, PollPromise, BoardOneOutcome}
use Rattle.promises_board.specs.Profiles.{OutOfRange}
use Rattle.promises_frame.specs.Calls.{PollLeft}
use Rattle.promises_frame.proofs.OnlyItsBytes.{only-its-bytes}
use Rattle.promises_frame.specs.Bits.{bit_at}
use Rattle.promises_frame.proofs.BitsAreBits.{bits-are-bits}
use Rattle.promises_frame.proofs.Polls.{left-first, unused-bit, poll-then-read}
use Rattle.promises_board.proofs.Tests.{and-false}
use Rattle.promises_board.proofs.Ranges.{is-out, is-in}
use Rattle.promises_board.proofs.Places.{row-place, row_on, row_is, unknown-off, only_row, unchanged}
use Rattle.promises_board.proofs.After.{look-refused, look-told, hear-keeps, hear-faults, hear-sets, no_place, its-place, refused-is, lost-is, read_is, settings-10, at-most-9}
use Rattle.promises_board.proofs.Told.{tells}

same_of : (rows : List Row) (c : Call) (a b : Answer c × List Row) → Does today rows c a.0 a.1 → Does today rows c b.0 b.1 → a ≡ b
same_of rows c a b p q = λ i. let s = board-order.one-outcome rows c a.0 b.0 a.1 b.1 p q in (s.0 i, s.1 i)

one_of : (rows : List Row) (c : Call) → One (Answer c × List Row) (λ o. Does today rows c o.0 o.1)
one_of rows (enrol settings address gauge) = record { same = same_of rows (enrol settings address gauge); some = (_, _); allowed = record { answers = refl; leaves = refl } }
one_of rows (hear minute address count reply) = record { same = same_of rows (hear minute address count reply); some = (_, _); allowed = record { answers = refl; leaves = refl } }
one_of rows (remove address) = record { same = same_of rows (remove address); some = (_, _); allowed = record { answers = refl; leaves = refl } }
one_of rows (look_up address) = record { same = same_of rows (look_up address); some = (_, rows); allowed = (record { answers = refl }, refl) }
one_of rows (poll address raise reset out) = record { same = same_of rows (poll address raise reset out); some = ((_, _), rows); allowed = (record { answers = refl; leaves = refl }, refl) }

pub board-one-outcome : BoardOneOutcome
board-one-outcome = record { any_call = one_of }

-- the rows at a place, where the place and the row that was put are known by other names
placed : (rows after : List Row) (at i : ℕ) (put row : Row) → i ≡ at → put ≡ row → at < length (board_of rows) → after ≡ set (board_of rows) at put ++ beyond rows → OnlyRow rows i row after
placed rows after at i put row e f l is =
    only_row rows i row after (subst (λ (k : ℕ). k < length (board_of rows)) (sym e) l)
    (is ∙ ap (λ (k : ℕ). set (board_of rows) k put ++ beyond rows) (sym e) ∙ ap (λ (r : Row). set (board_of rows) i r ++ beyond rows) f)

module _ (rows : List Row) (address : ℕ) (answer : Looked) (e : LooksUp rows address answer) where
  pub look-promise : LookPromise rows address answer
  look-promise =
      record {
        bad_address = λ a. e.answers ∙ look-refused (board_of rows) address 11 (find-11 (board_of rows) address a) refl;
        unknown = λ a u. e.answers ∙ look-refused (board_of rows) address 17 (find-17 (board_of rows) address a (unknown-off rows address u)) refl;
        found = λ a i p. tells (row_at rows i) answer (e.answers ∙ look-told (board_of rows) address (find-0 (board_of rows) address a (row_on rows address i p)) ∙ ap row_told (row_is rows address i p));
      }

module _ (rows : List Row) (minute address count : ℕ) (reply : List ℕ) (answer : Heard) (after : List Row) (e : Hears rows minute address count reply answer after) where
  abbrev board : List Row
  board = board_of rows

  abbrev number : ℕ
  number = hear_number board address count reply

  -- what is answered, by the number and the place
  said : (n p : ℕ) → number ≡ n → hear_place board address count reply ≡ p → answer ≡ heard_as n p
  said n p is named = e.answers ∙ ap (λ (m : ℕ). heard_as m (hear_place board address count reply)) is ∙ ap (heard_as n) named

  plain : (n : ℕ) → eqb n 7 ≡ false → number ≡ n → answer ≡ heard_as n 0
  plain n v is = said n 0 is (no_place board minute address count reply (ap (λ (m : ℕ). eqb m 7) is ∙ v))

  hear-refused : (n : ℕ) → eqb n 0 ≡ false → eqb n 7 ≡ false → sets_fault n ≡ false → number ≡ n → (answer ≡ heard_as n 0) × (after ≡ rows)
  hear-refused n z v l is =
      (plain n v is, unchanged rows after (e.leaves ∙ ap (λ (b : List Row). b ++ beyond rows) (hear-keeps (board_of rows) minute address count reply (ap (λ (m : ℕ). eqb m 0) is ∙ z) (ap (λ (m : ℕ). sets_fault m) is ∙ l))))

  -- the number is what the row gives
  by_row : address ≤ 999 → formed count reply ≡ true → (i : ℕ) → IsRowOf rows address i → number ≡ read_number address count reply (row_at rows i)
  by_row a f i p = hear-read (board_of rows) address count reply a f (row_on rows address i p) ∙ ap (read_number address count reply) (row_is rows address i p)

  -- where the frame refuses, it is the frame's, by the settings of the row
  by-frame : address ≤ 999 → formed count reply ≡ true → (i : ℕ) → IsRowOf rows address i → (n : ℕ) → reply_fault (row_at rows i).settings address count reply ≡ n → eqb n 0 ≡ false → number ≡ n
  by-frame a f i p n e z = by_row a f i p ∙ read-refused address count reply (row_at rows i) n e z

  -- a fault that is set, with the place that is answered
  fault-set : (i : ℕ) → IsRowOf rows address i → (n p : ℕ) → number ≡ n → hear_place board address count reply ≡ p → eqb n 0 ≡ false → sets_fault n ≡ true → OnlyRow rows i (with_fault (heard_at (row_at rows i) minute) n p) after
  fault-set i w n p is named z f =
      placed rows after (place_of address (board_of rows)) i (with_fault (heard_at (row_of address (board_of rows)) minute) number (hear_place board address count reply)) (with_fault (heard_at (row_at rows i) minute) n p) (sym (row-place rows address i w))
      (ap (λ (r : Row). with_fault (heard_at r minute) number (hear_place board address count reply)) (row_is rows address i w) ∙ ap (λ (m : ℕ). with_fault (heard_at (row_at rows i) minute) m (hear_place board address count reply)) is ∙ ap (with_fault (heard_at (row_at rows i) minute) n) named) (row_on rows address i w)
      (e.leaves ∙ ap (λ (b : List Row). b ++ beyond rows) (hear-faults (board_of rows) minute address count reply (ap (λ (m : ℕ). eqb m 0) is ∙ z) (ap (λ (m : ℕ). sets_fault m) is ∙ f)))

  -- of a fault that names no place
  fault-alone : address ≤ 999 → formed count reply ≡ true → (i : ℕ) → IsRowOf rows address i → (row_at rows i).settings ≤ 15 → (f : Fault) → ReadsReply (row_at rows i).settings address count reply (Err f) → eqb (number_of f) 7 ≡ false
      → (answer ≡ heard_as (number_of f) 0) × (1 ≤ number_of f) × (number_of f ≤ 9) × OnlyRow rows i (with_fault (heard_at (row_at rows i) minute) (number_of f) 0) after
  fault-alone a w i p s f read not-seven =
      let n = number_of f in
      let is = refused-is (row_at rows i).settings address count reply f read in
      let same : number ≡ n = by-frame a w i p n is.0 is.1 in
      let most : n ≤ 9 = subst (λ (k : ℕ). k ≤ 9) is.0 (at-most-9 (row_at rows i).settings address count reply s a w) in
      let some : 1 ≤ n = positive n is.1 in
      (plain n not-seven same, some, most, fault-set i p n 0 same (no_place board minute address count reply (ap (λ (m : ℕ). eqb m 7) same ∙ not-seven)) is.1 (sets-by n some most))
    where
      positive : (n : ℕ) → eqb n 0 ≡ false → 1 ≤ n
      positive n z = let ne : n ≡ 0 → ⊥ = eqb-false n 0 z in omega arith

  hear-unreadable : address ≤ 999 → formed count reply ≡ true → (i : ℕ) → IsRowOf rows address i → (place : ℕ) → ReadsReply (row_at rows i).settings address count reply (Err (InNoChart place))
      → (answer ≡ heard_as 7 place) × OnlyRow rows i (with_fault (heard_at (row_at rows i) minute) 7 place) after
  hear-unreadable a f i p place read =
      let is = lost-is (row_at rows i).settings address count reply place read in
      let same : number ≡ 7 = by-frame a f i p 7 is.0 refl in
      let named : hear_place board address count reply ≡ place
      = its-place board minute address count reply same ∙ ap (λ (r : Row). place_lost (level_of (mode_in r.settings) (line reply))) (row_is rows address i p) ∙ sym is.1 in
      (said 7 place same named, fault-set i p 7 place same named refl sets-7)

  -- number 7 alone names a place, and of each other fault the place named is 0
  hear-faulty : address ≤ 999 → formed count reply ≡ true → (i : ℕ) → IsRowOf rows address i → (row_at rows i).settings ≤ 15 → (f : Fault) → ReadsReply (row_at rows i).settings address count reply (Err f)
      → (answer ≡ heard_as (number_of f) (place_named f)) × (1 ≤ number_of f) × (number_of f ≤ 9) × OnlyRow rows i (with_fault (heard_at (row_at rows i) minute) (number_of f) (place_named f)) after
  hear-faulty a w i p s (InNoChart place) read =
      let lost = hear-unreadable a w i p place read in
      (lost.0, omega arith, omega arith, lost.1)
  hear-faulty a w i p s f read = fault-alone a w i p s f read refl

  -- the temperature that is tested is that of the reading
  tested : (i : ℕ) (r : Reading) → r ≡ reading_at (row_at rows i).settings count (line reply) → outside_at (row_at rows i) count reply ≡ outside_by (row_at rows i).settings (row_at rows i).gauge r.temperature
  tested i r e = ap (λ (x : Reading). outside_by (row_at rows i).settings (row_at rows i).gauge x.temperature) (sym e)

  hear-outside : address ≤ 999 → formed count reply ≡ true → (i : ℕ) → IsRowOf rows address i → (r : Reading) → ReadsReply (row_at rows i).settings address count reply (Ok r) → OutOfRange (row_at rows i) r.temperature → (answer ≡ heard_as 26 0) × OnlyRow rows i (with_fault (heard_at (row_at rows i) minute) 26 0) after
  hear-outside a f i p r read out =
      let is = read_is (row_at rows i).settings address count reply r read in
      let same : number ≡ 26 = by_row a f i p ∙ read-outside address count reply (row_at rows i) is.0 (tested i r is.1 ∙ is-out (row_at rows i) r.temperature out) in
      (plain 26 refl same, fault-set i p 26 0 same (no_place board minute address count reply (ap (λ (m : ℕ). eqb m 7) same)) refl sets-26)

  hear-heard : address ≤ 999 → formed count reply ≡ true → (i : ℕ) → IsRowOf rows address i → (r : Reading) → ReadsReply (row_at rows i).settings address count reply (Ok r) → (OutOfRange (row_at rows i) r.temperature → ⊥) → (answer ≡ heard_as 0 0) × OnlyRow rows i (with_reading (heard_at (row_at rows i) minute) r minute) after
  hear-heard a f i p r read within =
      let is = read_is (row_at rows i).settings address count reply r read in
      let zero : number ≡ 0 = by_row a f i p ∙ read-good address count reply (row_at rows i) is.0 (tested i r is.1 ∙ is-in (row_at rows i) r.temperature within) in (
        plain 0 refl zero,
        placed rows after (place_of address (board_of rows)) i (with_reading (heard_at (row_of address (board_of rows)) minute) (reading_at (row_of address (board_of rows)).settings count (line reply)) minute) (with_reading (heard_at (row_at rows i) minute) r minute) (sym (row-place rows address i p))
            (ap (λ (x : Row). with_reading (heard_at x minute) (reading_at x.settings count (line reply)) minute) (row_is rows address i p) ∙ ap (λ (x : Reading). with_reading (heard_at (row_at rows i) minute) x minute) (sym is.1)) (row_on rows address i p)
            (e.leaves ∙ ap (λ (b : List Row). b ++ beyond rows) (hear-sets (board_of rows) minute address count reply zero)),
      )

  pub hear-promise : HearPromise rows minute address count reply answer after
  hear-promise =
      record {
        bad_address = λ a. hear-refused 11 refl refl not-11 (hear-11 (board_of rows) address count reply a);
        bad_form = λ a f. hear-refused 14 refl refl not-14 (hear-14 (board_of rows) address count reply a f);
        unknown = λ a f u. hear-refused 17 refl refl not-17 (hear-17 (board_of rows) address count reply a f (unknown-off rows address u));
        bad_settings = λ a f i p s. hear-refused 10 refl refl not-10 (by-frame a f i p 10 (settings-10 (row_at rows i).settings address count reply s) refl);
        faulty = hear-faulty;
        unreadable = hear-unreadable;
        outside = hear-outside;
        heard = hear-heard;
      }

-- The output after a row's poll, by its number; and what the writer of polls answers.
abbrev polled_bytes : (address raise reset : ℕ) → List ℕ → ℕ → List ℕ
polled_bytes address raise reset out n = pick (eqb n 0) (first_bytes 2 (poll_line address (is_set raise) (is_set reset)) ++ drop 2 out) out

write-0 : (address : ℕ) (out : List ℕ) → address ≤ 999 → 2 ≤ length out → write_poll_fault address out ≡ 0
unfolding write_poll_fault
write-0 address out a l = simp (le-ltb 999 address a, le-ltb (length out) 2 l)

write-15 : (address : ℕ) (out : List ℕ) → address ≤ 999 → length out < 2 → write_poll_fault address out ≡ 15
unfolding write_poll_fault
write-15 address out a l = simp (le-ltb 999 address a, lt-ltb (length out) 2 l)

module _ (rows : List Row) (address raise reset : ℕ) (out : List ℕ) (answer : ℕ) (after : List ℕ) (e : PollsRow rows address raise reset out answer after) where
  abbrev asked : ℕ
  asked = may_poll (board_of rows) address raise reset

  -- the number and the output, by what may be asked of the row
  by_may : (n : ℕ) → asked ≡ n → (answer ≡ or_poll n address out) × (after ≡ polled_bytes address raise reset out (or_poll n address out))
  unfolding row_poll_bytes
  by_may n is =
      let same = sym (polled (board_of rows) address raise reset out) ∙ ap (λ (m : ℕ). or_poll m address out) is in
      (e.answers ∙ same, e.leaves ∙ ap (polled_bytes address raise reset out) same)

  refused-may : (n : ℕ) → asked ≡ n → eqb n 0 ≡ false → (answer ≡ n) × (after ≡ out)
  refused-may n is z =
      let r = by_may n is in
      let same : or_poll n address out ≡ n = ap (λ (t : Bool). pick t (write_poll_fault address out) n) z in
      (r.0 ∙ same, r.1 ∙ ap (polled_bytes address raise reset out) same ∙ ap (λ (t : Bool). pick t (first_bytes 2 (poll_line address (is_set raise) (is_set reset)) ++ drop 2 out) out) z)

  -- what may be asked is not denied
  may-ask : (row : Row) → MayAsk row raise reset → (unmarked row.gauge raise reset ≡ false) × (at_once raise reset ≡ false)
  may-ask row (neither a b) = (ap (λ (t : Bool). not (is6500 row.gauge) && (t || is_set reset)) a ∙ ap (λ (t : Bool). not (is6500 row.gauge) && t) b ∙ and-false (not (is6500 row.gauge)), ap (λ (t : Bool). t && is_set reset) a)
  may-ask row (to_raise m b) = (ap (λ (t : Bool). not t && (is_set raise || is_set reset)) m, ap (λ (t : Bool). is_set raise && t) b ∙ and-false (is_set raise))
  may-ask row (to_reset m a) = (ap (λ (t : Bool). not t && (is_set raise || is_set reset)) m, ap (λ (t : Bool). t && is_set reset) a)

  denied-at : (i : ℕ) → IsRowOf rows address i → denied (board_of rows) address raise reset ≡ unmarked (row_at rows i).gauge raise reset
  denied-at i p = ap (λ (r : Row). unmarked r.gauge raise reset) (row_is rows address i p)

  granted : address ≤ 999 → (i : ℕ) → IsRowOf rows address i → MayAsk (row_at rows i) raise reset → asked ≡ 0
  granted a i p m = let t = may-ask (row_at rows i) m in may-0 (board_of rows) address raise reset a (row_on rows address i p) (denied-at i p ∙ t.0) t.1

  -- both at once, whether the row is marked or not
  at-once : address ≤ 999 → (i : ℕ) → IsRowOf rows address i → is_set raise ≡ true → is_set reset ≡ true → asked ≡ 28
  at-once a i p r s = may-by (board_of rows) address raise reset a (row_on rows address i p) ∙ ap (λ (t : Bool). pick (denied (board_of rows) address raise reset) 28 (pick t 28 0)) (ap (λ (t : Bool). t && is_set reset) r ∙ s) ∙ either (denied (board_of rows) address raise reset)
    where
      either : (t : Bool) → ◌≡◌ {A = ℕ} (pick t 28 28) 28
      either true = refl
      either false = refl

  writes : address ≤ 999 → (i : ℕ) → IsRowOf rows address i → MayAsk (row_at rows i) raise reset → 2 ≤ length out → (answer ≡ 0) × WritesPoll address (is_set raise) (is_set reset) out (Ok 2) after
  writes a i p m l =
      let w = by_may 0 (granted a i p m) in
      let z : write_poll_fault address out ≡ 0 = write-0 address out a l in
      (w.0 ∙ z, record { answers = sym (ap (λ (n : ℕ). verdict n 2) z); leaves = w.1 })

  pub poll-promise : PollPromise rows address raise reset out answer after
  poll-promise =
      record {
        bad_address = λ a. refused-may 11 (may-11 (board_of rows) address raise reset a) refl;
        unknown = λ a u. refused-may 17 (may-17 (board_of rows) address raise reset a (unknown-off rows address u)) refl;
        unmarked = λ a i p r m. refused-may 28 (may-28 (board_of rows) address raise reset a (row_on rows address i p) (denied-at i p ∙ ap (λ (t : Bool). not t && (is_set raise || is_set reset)) m ∙ r)) refl;
        both = λ a i p r s. refused-may 28 (at-once a i p r s) refl;
        short = λ a i p m l.
            let w = by_may 0 (granted a i p m) in
            let f = write-15 address out a l in
            (w.0 ∙ f, w.1 ∙ ap (polled_bytes address raise reset out) f);
        polled = λ a i p m l.
            let w = writes a i p m l in
            let left : PollLeft (record { address = address; raise = is_set raise; reset = is_set reset }) (take 2 after) = record { out = out; after = after; said = Ok 2; long_enough = l; call = w.1; first = refl } in
            let only = only-its-bytes.write-poll address (is_set raise) (is_set reset) out after (Ok 2) w.1 in (
              w.0,
              record { answers = sym (poll-then-read (record { address = address; raise = is_set raise; reset = is_set reset }) a (take 2 after) left (poll_of (take 2 after)) (record { answers = refl })).1 },
              only.same_length,
              only.others,
              ap (λ (s : List ℕ). bit_at s 2) (left-first (record { address = address; raise = is_set raise; reset = is_set reset }) a (take 2 after) left).1
                  ∙ bits-are-bits.written 2 (poll_line address (is_set raise) (is_set reset)) 2 (omega arith) (omega arith) (omega arith) ∙ unused-bit address (is_set raise) (is_set reset) a,
            );
      }
