-- Today's calls, from the promises of the board as it was: of rows so kept a hearing, a look and a poll have the outcome that they had, and an enrolment and a
-- removal leave the same rows in use, so that a look tells the same after them; rows not so kept are refused by 38 and stay.
use mathlib.Core.Path.{◌≡◌, refl, sym, ◌∙◌, ap, subst}
use mathlib.Core.Bool.{Bool, true, false}
use mathlib.Core.List.{List, ◌++◌}
use Prim.Native.Nat.{ℕ, ◌<◌, ◌≤◌}
use native.Mathlib.Omega.{arith}
use lib.Dec.{eqb}
use lib.ListN.{take-append-drop}
use borrow.Author.Tests.{not-true}
use Rattle.frame.specs.Pick.{pick}
use Rattle.board.specs.declared.Heard.{Heard}
use Rattle.board.specs.declared.Looked.{Looked}
use Rattle.board.specs.declared.Row.{Row}
use Rattle.board.specs.Row.{is_free, is_in_use, new_row, sets_fault}
use Rattle.board.specs.Rows.{board_of, beyond}
use Rattle.board.specs.Order.{in_address_order, insert_row, without_row}
use Rattle.board.specs.Calls.{Enrols, Hears, Removes, LooksUp, heard_as, enrol_number, enrol_rows, find_number, remove_rows}
use Rattle.board.proofs.Order.{neither}
use Rattle.board.proofs.Numbers.{enrol-10, enrol-11, enrol-27, enrol-18, enrol-19, enrol-0, find-11, find-17, find-0}
use Rattle.promises_order.specs.OldBoard.{OldEnrols, OldRemoves, OldLooksUp, old_enrol_rows, old_remove_rows}
use Rattle.promises_order.specs.Places.{row_at, OnBoard}
use Rattle.promises_order.specs.Order.{SoKept, SameInUse, Front, IsPlaceFor, Inserted, Closed}
use Rattle.promises_order.proofs.Held.{row-of, on-held, first, some}
use Rattle.promises_order.proofs.SoKept.{so-kept, kept-so}
use Rattle.promises_order.proofs.Boards.{same-looked}
use Rattle.promises_order.specs.Calls.{enrol, hear, remove, look_up, poll}
use Rattle.promises_order.proofs.Order.{in_order, board-order}
use Rattle.promises_frame.proofs.Cases.{by-lt}
use Rattle.promises_order.specs.Calls.{today}
use Rattle.promises_board.specs.Readings.{BoardReadings}
use Rattle.promises_board.specs.Calls.{IsRowOf, IsFirstFree, EnrolPromise, RemovePromise, BoardCalls}
use Rattle.promises_board.proofs.Places.{row_on, unknown-off, free_on, none_free}
use Rattle.promises_board.proofs.Calls.{hear-promise, look-promise, poll-promise}
use Rattle.promises_board.proofs.Readings.{board-readings}

-- Rows are so kept or not.
pub by_order : {A : Type 0} (rows : List Row) → (SoKept rows → A) → ((SoKept rows → ⊥) → A) → A
by_order {A} rows f g = go (in_address_order (board_of rows)) refl
  where
    go : (t : Bool) → in_address_order (board_of rows) ≡ t → A
    go true k = f (so-kept rows k)
    go false k = g (λ so. neither (kept-so rows so) k)

not_set : sets_fault 38 ≡ false
unfolding sets_fault
not_set = refl

-- A call that answered another number than 38 was of rows so kept.
pub hear-so : (rows : List Row) (minute address count n place : ℕ) (reply : List ℕ) (after : List Row) → (n ≡ 38 → ⊥) → Hears rows minute address count reply (heard_as n place) after → SoKept rows
hear-so rows minute address count n place reply after ne e =
    by_order rows (λ so. so) (λ none. absurd (ne (ap (λ (h : Heard). h.number) (board-order.is_38 rows (hear minute address count reply) (heard_as n place) after none e).0)))

pub enrol-so : (rows : List Row) (settings address gauge : ℕ) (after : List Row) → Enrols rows settings address gauge 0 after → SoKept rows
enrol-so rows settings address gauge after e =
    by_order rows (λ so. so) (λ none. let z : ◌≡◌ {A = ℕ} 0 38 = (board-order.is_38 rows (enrol settings address gauge) 0 after none e).0 in absurd (omega arith))

-- A look after rows have moved is that of the rows as they would have stood.
pub look-moved : (before after : List Row) (address : ℕ) (told : Looked) → SameInUse before after → SoKept after → LooksUp after address told → OldLooksUp before address told
look-moved before after address told same so e =
    record {
      answers = (board-order.very_outcome after (look_up address) told after so tt (e, refl)).0.answers
          ∙ sym (same-looked (board_of before) (board_of after) address (on-held address (board_of before) ∙ ap some (same address) ∙ sym (on-held address (board_of after))) (row-of address (board_of before) ∙ ap first (same address) ∙ sym (row-of address (board_of after))));
    }

-- Rows not so kept and left as they are: both looks are refused by 38.
both-38 : (rows after : List Row) (address : ℕ) (before told : Looked) → (SoKept rows → ⊥) → after ≡ rows → LooksUp rows address before → LooksUp after address told → told ≡ before
both-38 rows after address before told none is e f =
    (board-order.is_38 after (look_up address) told after (λ so. none (subst SoKept is so)) (f, refl)).0 ∙ sym (board-order.is_38 rows (look_up address) before rows none (e, refl)).0

module _ (rows : List Row) (settings address gauge : ℕ) where
  -- what an enrolment left of the old board
  abbrev pub enrolled-before : List Row
  enrolled-before = old_enrol_rows (board_of rows) settings address gauge ++ beyond rows

  pub enrols-before : OldEnrols rows settings address gauge (enrol_number (board_of rows) settings address gauge) enrolled-before
  enrols-before = record { answers = refl; leaves = refl }

module _ (rows : List Row) (address : ℕ) where
  abbrev pub removed-before : List Row
  removed-before = old_remove_rows (board_of rows) address ++ beyond rows

  pub removes-before : OldRemoves rows address (find_number (board_of rows) address) removed-before
  removes-before = record { answers = refl; leaves = refl }

pub readings-now : BoardReadings today
readings-now =
    record {
      heard = λ rows after minute address count place reply told hears looks.
          let so = hear-so rows minute address count 0 place reply after (λ z. omega arith) hears in
          let later = board-order.keeps rows (hear minute address count reply) (heard_as 0 place) after so hears in
          board-readings.heard rows after minute address count place reply told (board-order.very_outcome rows (hear minute address count reply) (heard_as 0 place) after so tt hears) (board-order.very_outcome after (look_up address) told after later tt (looks, refl)).0;
      accepted = λ rows after minute address count place reply told hears looks.
          let so = hear-so rows minute address count 0 place reply after (λ z. omega arith) hears in
          let later = board-order.keeps rows (hear minute address count reply) (heard_as 0 place) after so hears in
          board-readings.accepted rows after minute address count place reply told (board-order.very_outcome rows (hear minute address count reply) (heard_as 0 place) after so tt hears) (board-order.very_outcome after (look_up address) told after later tt (looks, refl)).0;
      kept = λ rows after minute address count fault place reply before told sets looked hears looks.
          let so = hear-so rows minute address count fault place reply after (λ z. neither sets (ap sets_fault z ∙ not_set)) hears in
          let later = board-order.keeps rows (hear minute address count reply) (heard_as fault place) after so hears in
          board-readings.kept rows after minute address count fault place reply before told sets (board-order.very_outcome rows (look_up address) before rows so tt (looked, refl)).0 (board-order.very_outcome rows (hear minute address count reply) (heard_as fault place) after so tt hears) (board-order.very_outcome after (look_up address) told after later tt (looks, refl)).0;
      started = λ rows after settings address gauge told enrols looks.
          let so = enrol-so rows settings address gauge after enrols in
          let later = board-order.keeps rows (enrol settings address gauge) 0 after so enrols in
          let was = board-order.as_before rows (enrol settings address gauge) (enrol_number (board_of rows) settings address gauge) 0 (enrolled-before rows settings address gauge) after so (enrols-before rows settings address gauge) enrols in
          board-readings.started rows (enrolled-before rows settings address gauge) settings address gauge told
          (subst (λ (n : ℕ). OldEnrols rows settings address gauge n (enrolled-before rows settings address gauge)) was.0 (enrols-before rows settings address gauge))
          (look-moved (enrolled-before rows settings address gauge) after address told was.1 later looks);
      hear_apart = λ rows after minute address other count reply answer before told ne looked hears looks.
          by_order rows
          (λ so. board-readings.hear_apart rows after minute address other count reply answer before told ne (board-order.very_outcome rows (look_up address) before rows so tt (looked, refl)).0 (board-order.very_outcome rows (hear minute other count reply) answer after so tt hears)
          (board-order.very_outcome after (look_up address) told after (board-order.keeps rows (hear minute other count reply) answer after so hears) tt (looks, refl)).0)
          (λ none. both-38 rows after address before told none (board-order.is_38 rows (hear minute other count reply) answer after none hears).1 looked looks);
      enrol_apart = λ rows after settings address gauge other answer before told ne looked enrols looks.
          by_order rows
          (λ so.
          let was = board-order.as_before rows (enrol settings other gauge) (enrol_number (board_of rows) settings other gauge) answer (enrolled-before rows settings other gauge) after so (enrols-before rows settings other gauge) enrols in
          board-readings.enrol_apart rows (enrolled-before rows settings other gauge) settings address gauge other (enrol_number (board_of rows) settings other gauge) before told ne (board-order.very_outcome rows (look_up address) before rows so tt (looked, refl)).0 (enrols-before rows settings other gauge)
          (look-moved (enrolled-before rows settings other gauge) after address told was.1 (board-order.keeps rows (enrol settings other gauge) answer after so enrols) looks))
          (λ none. both-38 rows after address before told none (board-order.is_38 rows (enrol settings other gauge) answer after none enrols).1 looked looks);
      remove_apart = λ rows after address other answer before told ne looked removes looks.
          by_order rows
          (λ so.
          let was = board-order.as_before rows (remove other) (find_number (board_of rows) other) answer (removed-before rows other) after so (removes-before rows other) removes in
          board-readings.remove_apart rows (removed-before rows other) address other (find_number (board_of rows) other) before told ne (board-order.very_outcome rows (look_up address) before rows so tt (looked, refl)).0 (removes-before rows other)
          (look-moved (removed-before rows other) after address told was.1 (board-order.keeps rows (remove other) answer after so removes) looks))
          (λ none. both-38 rows after address before told none (board-order.is_38 rows (remove other) answer after none removes).1 looked looks);
    }

-- The cases of an enrolment and of a removal: the number is the one that was asked, and beside a refusal the board is left.
module _ (rows : List Row) (so : SoKept rows) where
  k : in_address_order (board_of rows) ≡ true
  k = kept-so rows so

  left : (now after : List Row) → now ≡ board_of rows → after ≡ pick (in_address_order (board_of rows)) now (board_of rows) ++ beyond rows → after ≡ rows
  left now after is e = e ∙ ap (λ (zs : List Row). zs ++ beyond rows) (in_order (board_of rows) now (board_of rows) k ∙ is) ∙ take-append-drop 30 rows

  front-free : (n : ℕ) → IsFirstFree rows n → Front rows n
  front-free n p =
      record { used = λ j l. (record { counts = omega (arith, l, p.place.counts); lent = omega (arith, l, p.place.lent) }, p.first j l); free = λ on. p.free }

  -- a row in use is among the rows in front
  in-front : (n : ℕ) → Front rows n → {address : ℕ} (i : ℕ) → IsRowOf rows address i → i < n
  in-front n front i p = by-lt i n (λ l. l) (λ l. absurd (behind l))
    where
      on : n ≤ i → OnBoard rows n
      on l = record { counts = omega (arith, l, p.place.counts); lent = omega (arith, l, p.place.lent) }

      behind : n ≤ i → ⊥
      behind l =
          let f : is_free (row_at rows n) ≡ true = front.free (on l) in
          by-lt n i (λ m. neither f (not-true (is_free (row_at rows n)) (so.front n i m p.place p.here.used)))
          (λ m.
          let is : i ≡ n = omega (arith, l, m) in
          neither f (not-true (is_free (row_at rows n)) (subst (λ (k : ℕ). is_in_use (row_at rows k) ≡ true) is p.here.used)))

  module _ (settings address gauge answer : ℕ) (after : List Row) (e : Enrols rows settings address gauge answer after) where
    number : answer ≡ enrol_number (board_of rows) settings address gauge
    number = e.answers ∙ in_order (board_of rows) (enrol_number (board_of rows) settings address gauge) 38 k

    refused : (n : ℕ) → eqb n 0 ≡ false → enrol_number (board_of rows) settings address gauge ≡ n → (answer ≡ n) × (after ≡ rows)
    unfolding enrol_rows
    refused n z is = (number ∙ is, left (enrol_rows (board_of rows) settings address gauge) after (ap (λ (m : ℕ). pick (eqb m 0) (insert_row (new_row settings address gauge) (board_of rows)) (board_of rows)) is ∙ ap (λ (t : Bool). pick t (insert_row (new_row settings address gauge) (board_of rows)) (board_of rows)) z) e.leaves)

    -- the first free row is behind the rows in use
    put : (n : ℕ) → IsFirstFree rows n → answer ≡ 0 → (answer ≡ 0) × ((i : ℕ) → IsPlaceFor rows address n i → Inserted rows i n (new_row settings address gauge) after)
    put n p z = (z, λ i at. board-order.enrol_moves rows settings address gauge after so (subst (λ (m : ℕ). Enrols rows settings address gauge m after) z e) n i (front-free n p) at)

    enrol-now : EnrolPromise rows settings address gauge answer after
    enrol-now =
        record {
          bad_settings = λ s. refused 10 refl (enrol-10 (board_of rows) settings address gauge s);
          bad_address = λ s a. refused 11 refl (enrol-11 (board_of rows) settings address gauge s a);
          misplaced = λ s a m. refused 27 refl (enrol-27 (board_of rows) settings address gauge s a m);
          twice = λ s a m i p. refused 18 refl (enrol-18 (board_of rows) settings address gauge s a m (row_on rows address i p));
          no_row = λ s a m u f. refused 19 refl (enrol-19 (board_of rows) settings address gauge s a m (unknown-off rows address u) (none_free rows f));
          enrolled = λ s a m u n p. put n p (number ∙ enrol-0 (board_of rows) settings address gauge s a m (unknown-off rows address u) (free_on rows n p));
        }

  module _ (address answer : ℕ) (after : List Row) (e : Removes rows address answer after) where
    found : answer ≡ find_number (board_of rows) address
    found = e.answers ∙ in_order (board_of rows) (find_number (board_of rows) address) 38 k

    not_found : (n : ℕ) → eqb n 0 ≡ false → find_number (board_of rows) address ≡ n → (answer ≡ n) × (after ≡ rows)
    unfolding remove_rows
    not_found n z is = (found ∙ is, left (remove_rows (board_of rows) address) after (ap (λ (m : ℕ). pick (eqb m 0) (without_row address (board_of rows)) (board_of rows)) is ∙ ap (λ (t : Bool). pick t (without_row address (board_of rows)) (board_of rows)) z) e.leaves)

    taken : (i : ℕ) → IsRowOf rows address i → answer ≡ 0 → (answer ≡ 0) × ((n : ℕ) → Front rows n → Closed rows i n after)
    taken i p z = (z, λ n front. board-order.remove_moves rows address after so (subst (λ (m : ℕ). Removes rows address m after) z e) n i front (in-front n front i p) p.here.same)

    remove-now : RemovePromise rows address answer after
    remove-now =
        record {
          bad_address = λ a. not_found 11 refl (find-11 (board_of rows) address a);
          unknown = λ a u. not_found 17 refl (find-17 (board_of rows) address a (unknown-off rows address u));
          removed = λ a i p. taken i p (found ∙ find-0 (board_of rows) address a (row_on rows address i p));
        }

pub board-calls : BoardCalls
board-calls =
    record {
      enrol = λ rows settings address gauge answer after so e. enrol-now rows so settings address gauge answer after e;
      hear = λ rows minute address count reply answer after so e. hear-promise rows minute address count reply answer after (board-order.very_outcome rows (hear minute address count reply) answer after so tt e);
      remove = λ rows address answer after so e. remove-now rows so address answer after e;
      look_up = λ rows address answer so e. look-promise rows address answer (board-order.very_outcome rows (look_up address) answer rows so tt (e, refl)).0;
      poll = λ rows address raise reset out answer after so e. poll-promise rows address raise reset out answer after (board-order.very_outcome rows (poll address raise reset out) (answer, after) rows so tt (e, refl)).0;
    }
