-- The last good reading. The outcome of each call says which one row was set (`BoardDone`); the row of an address is then the same row, and looking
-- tells what stands in it.
use mathlib.Core.Path.{◌≡◌, refl, sym, ◌∙◌, ap, subst}
use mathlib.Core.Bool.{Bool, true, false, not}
use mathlib.Core.List.{List}
use Prim.Native.Nat.{ℕ, ◌<◌, ◌≤◌}
use native.Mathlib.Omega.{arith}
use lib.Dec.{eqb}
use lib.ListN.{length}
use borrow.Author.Tests.{eqb-false}
use Rattle.frame.specs.declared.Reading.{Reading}
use Rattle.frame.specs.Line.{line}
use Rattle.frame.specs.Reply.{reply_fault, reading_at}
use Rattle.board.specs.declared.Heard.{Heard}
use Rattle.board.specs.declared.Looked.{Looked}
use Rattle.board.specs.declared.Row.{Row}
use Rattle.board.specs.Gauge.{gauge_told}
use Rattle.board.specs.Row.{none, good, is_free, last_of, never, at, more, heard_at, heard_of, free_row, new_row, with_reading, with_fault, place_told, sets_fault}
use Rattle.board.specs.Rows.{board_of, place_of, place_free}
use Rattle.frame.specs.Pick.{pick}
use Rattle.board.specs.Calls.{heard_as, row_told, refused_look, last_told, minute_told}
use Rattle.promises_order.specs.OldBoard.{OldHears as Hears, OldLooksUp as LooksUp}
use Rattle.board.proofs.Faults.{sets-some, not-0}
use Rattle.board.proofs.Numbers.{find-11, find-17, find-0}
use Rattle.promises_order.specs.Places.{row_at, OnBoard}
use Rattle.promises_board.specs.Calls.{Holds, IsRowOf, Unknown, OnlyRow, TellsRow}
use Rattle.promises_order.specs.Calls.{as_it_was}
use Rattle.promises_board.specs.Readings.{Reads, BoardReadings}
use Rattle.promises_board.proofs.Tests.{differs}
use Rattle.promises_board.proofs.Places.{row_on, row_is, place-row, unknown-off}
use Rattle.promises_board.proofs.After.{look-refused, look-told, read_is, reads}
use Rattle.promises_board.proofs.Told.{tells, reading-held, good-minute, fault-keeps, fault-minute}
use Rattle.promises_frame.proofs.Cases.{by-lt}
use Rattle.promises_board.proofs.Done.{set-only, off-unknown, Enrolled, not-enrolled, took, enrol-done, Removed, not_removed, gave, remove-done, HearDone, not-heard, faulty, good as well-heard, hear-done}

not-zero : {A : Type 0} → (n : ℕ) → eqb n 0 ≡ false → n ≡ 0 → A
not-zero n e z = absurd (eqb-false n 0 e z)

-- The row of an address is its row still where that row alone was set, to one that holds the address.
module _ (rows after : List Row) (address i : ℕ) (row : Row) (only : OnlyRow rows i row after) where
  pub still : OnBoard rows i → Holds row address → ((j : ℕ) → j < i → Holds (row_at rows j) address → ⊥) → IsRowOf after address i
  still p h first =
      record {
        place = record { counts = p.counts; lent = omega (arith, p.lent, only.as_many) };
        here = subst (λ (r : Row). Holds r address) (sym only.own) h;
        first = λ j k held. first j k (subst (λ (r : Row). Holds r address) (only.others j (λ e. omega arith)) held);
      }

-- What a look at the row of an address answers.
module _ (rows : List Row) (address : ℕ) (answer : Looked) (e : LooksUp rows address answer) where
  pub looked-row : address ≤ 999 → (i : ℕ) → IsRowOf rows address i → answer ≡ row_told (row_at rows i)
  looked-row a i p = e.answers ∙ look-told (board_of rows) address (find-0 (board_of rows) address a (row_on rows address i p)) ∙ ap row_told (row_is rows address i p)

  pub looked-unknown : address ≤ 999 → Unknown rows address → answer ≡ refused_look 17
  looked-unknown a u = e.answers ∙ look-refused (board_of rows) address 17 (find-17 (board_of rows) address a (unknown-off rows address u)) refl

  pub looked-bad : 999 < address → answer ≡ refused_look 11
  looked-bad a = e.answers ∙ look-refused (board_of rows) address 11 (find-11 (board_of rows) address a) refl

-- The row of an address, by the row that was set: it was that row, or it is another.
module _ (rows after : List Row) (address : ℕ) where
  -- rows that hold the address stay where they are, and no other row comes to hold it: a look tells the same
  record Apart : Type 0 where
    as_many : length after ≡ length rows
    kept : (i : ℕ) → Holds (row_at rows i) address → row_at after i ≡ row_at rows i
    back : (i : ℕ) → Holds (row_at after i) address → row_at after i ≡ row_at rows i

  apart-row : Apart → (i : ℕ) → IsRowOf rows address i → IsRowOf after address i
  apart-row s i p =
      record {
        place = record { counts = p.place.counts; lent = omega (arith, p.place.lent, s.as_many) };
        here = subst (λ (r : Row). Holds r address) (sym (s.kept i p.here)) p.here;
        first = λ j k h. p.first j k (subst (λ (r : Row). Holds r address) (s.back j h) h);
      }

  apart-unknown : Apart → Unknown rows address → Unknown after address
  apart-unknown s u i p h = u i (record { counts = p.counts; lent = omega (arith, p.lent, s.as_many) }) (subst (λ (r : Row). Holds r address) (s.back i h) h)

  apart-look : Apart → (before answer : Looked) → LooksUp rows address before → LooksUp after address answer → answer ≡ before
  apart-look s before answer e f =
      by-lt 999 address (λ a. looked-bad after address answer f a ∙ sym (looked-bad rows address before e a))
      (λ a. by-lt (place_of address (board_of rows)) (length (board_of rows))
      (λ l. let p : IsRowOf rows address (place_of address (board_of rows)) = place-row rows address l in
      looked-row after address answer f a (place_of address (board_of rows)) (apart-row s (place_of address (board_of rows)) p) ∙ ap row_told (s.kept (place_of address (board_of rows)) p.here) ∙ sym (looked-row rows address before e a (place_of address (board_of rows)) p))
      (λ l. let u : Unknown rows address = off-unknown rows address l in
      looked-unknown after address answer f a (apart-unknown s u) ∙ sym (looked-unknown rows address before e a u)))

  apart-same : after ≡ rows → Apart
  apart-same e = record { as_many = ap length e; kept = λ i h. ap (λ (zs : List Row). row_at zs i) e; back = λ i h. ap (λ (zs : List Row). row_at zs i) e }

  -- one row was set, which did not hold the address and does not
  apart-set : (i : ℕ) (row : Row) → OnlyRow rows i row after → (Holds (row_at rows i) address → ⊥) → (Holds row address → ⊥) → Apart
  apart-set i row only old new =
      record {
        as_many = only.as_many;
        kept = λ j h. other j (λ e. old (subst (λ (k : ℕ). Holds (row_at rows k) address) e h));
        back = λ j h. other j (λ e. new (subst (λ (r : Row). Holds r address) (ap (λ (k : ℕ). row_at after k) e ∙ only.own) h));
      }
    where
      other : (j : ℕ) → (j ≡ i → ⊥) → row_at after j ≡ row_at rows j
      other j ne = only.others j ne

-- What a look tells after the row of the address alone was set to one that holds it.
module _ (rows after : List Row) (address i : ℕ) (row : Row) (answer : Looked) where
  told-set : OnlyRow rows i row after → address ≤ 999 → OnBoard rows i → Holds row address → ((j : ℕ) → j < i → Holds (row_at rows j) address → ⊥) → LooksUp after address answer
      → (answer.number ≡ 0) × (answer.fault ≡ row.fault) × (answer.settings ≡ row.settings) × (last_told answer ≡ last_of row) × (answer.place ≡ place_told row) × (answer.faulty ≡ row.faulty) × (minute_told answer ≡ heard_of row) × (answer.gauge ≡ gauge_told row.gauge)
  told-set only a p h first e =
      let t : TellsRow (row_at after i) answer = tells (row_at after i) answer (looked-row after address answer e a i (still rows after address i row only p h first)) in
      (t.number, t.fault ∙ ap (λ (r : Row). r.fault) only.own, t.settings ∙ ap (λ (r : Row). r.settings) only.own, t.reading ∙ ap last_of only.own, t.place ∙ ap place_told only.own, t.faulty ∙ ap (λ (r : Row). r.faulty) only.own, t.heard ∙ ap heard_of only.own, t.gauge ∙ ap (λ (r : Row). gauge_told r.gauge) only.own)

-- A hearing that answered 0.
module _ (rows after : List Row) (minute address count named : ℕ) (reply : List ℕ) (answer : Looked) (looks : LooksUp after address answer) where
  abbrev place : ℕ
  place = place_of address (board_of rows)

  abbrev row : Row
  row = row_at rows place

  abbrev reading : Reading
  reading = reading_at row.settings count (line reply)

  record GoodLook : Type 0 where
    number : answer.number ≡ 0
    fault : answer.fault ≡ 0
    none_named : answer.place ≡ 0
    none-faulty : answer.faulty ≡ 0
    now-heard : minute_told answer ≡ at minute
    settings : answer.settings ≡ row.settings
    last : last_told answer ≡ good reading minute
    frame : reply_fault row.settings address count reply ≡ 0

  good-by : HearDone rows minute address count reply (heard_as 0 named) after → GoodLook
  good-by (not-heard z l e) = not-zero 0 z refl
  good-by (faulty l a p e n) = absurd (differs l not-0)
  good-by (well-heard z a p f e) =
      let next : Row = with_reading (heard_at row minute) reading minute in
      let only : OnlyRow rows place next after = set-only rows after place next p.place e in
      let t = told-set rows after address place next answer only a p.place (record { used = p.here.used; same = p.here.same }) p.first looks in
      record { number = t.0; fault = t.1; none_named = t.4; none-faulty = t.5; now-heard = t.6 ∙ good-minute row reading minute; settings = t.2; last = t.3 ∙ reading-held (heard_at row minute) reading minute; frame = f }

  module _ (hears : Hears rows minute address count reply (heard_as 0 named) after) where
    good-look : GoodLook
    good-look = good-by (hear-done rows minute address count reply (heard_as 0 named) after hears)

    heard-then-looked : (answer.number ≡ 0) × (answer.fault ≡ 0) × (answer.place ≡ 0) × (answer.faulty ≡ 0) × (minute_told answer ≡ at minute) × ((read : Reads answer.settings address count reply) → last_told answer ≡ good read.reading minute)
    heard-then-looked = (
      good-look.number,
      good-look.fault,
      good-look.none_named,
      good-look.none-faulty,
      good-look.now-heard,
      λ read. good-look.last
          ∙ ap (λ (r : Reading). good r minute) (ap (λ (s : ℕ). reading_at s count (line reply)) (sym good-look.settings) ∙ sym (read_is answer.settings address count reply read.reading read.accepted).1),
    )

    was-accepted : Reads answer.settings address count reply
    was-accepted =
        record { reading = reading_at answer.settings count (line reply); accepted = reads answer.settings address count reply (ap (λ (s : ℕ). reply_fault s address count reply) good-look.settings ∙ good-look.frame) }

-- A hearing that answered 1 to 9 or 26.
module _ (rows after : List Row) (minute address count fault place : ℕ) (reply : List ℕ) (before answer : Looked) (set : sets_fault fault ≡ true) (looked : LooksUp rows address before) (looks : LooksUp after address answer) where
  -- what a row tells of the place that was answered
  told-place : (t : Bool) → eqb fault 7 ≡ t → (eqb fault 7 ≡ false → place ≡ 0) → pick t place 0 ≡ place
  told-place true v n = refl
  told-place false v n = sym (n v)

  kept_by : HearDone rows minute address count reply (heard_as fault place) after → (answer.number ≡ 0) × (answer.fault ≡ fault) × (answer.place ≡ place) × (answer.faulty ≡ more before.faulty) × (minute_told answer ≡ at minute) × (answer.settings ≡ before.settings) × (last_told answer ≡ last_told before)
  kept_by (not-heard z l e) = absurd (differs set l)
  kept_by (well-heard z a p f e) = absurd (omega (arith, sets-some fault set))
  kept_by (faulty l a p e n) =
      let i : ℕ = place_of address (board_of rows) in
      let next : Row = with_fault (heard_at (row_at rows i) minute) fault place in
      let only : OnlyRow rows i next after = set-only rows after i next p.place e in
      let t = told-set rows after address i next answer only a p.place (record { used = p.here.used; same = p.here.same }) p.first looks in
      let b : TellsRow (row_at rows i) before = tells (row_at rows i) before (looked-row rows address before looked a i p) in
      (t.0, t.1, t.4 ∙ told-place (eqb fault 7) refl n, t.5 ∙ ap more (sym b.faulty), t.6 ∙ fault-minute (row_at rows i) minute fault place (sets-some fault set), t.2 ∙ sym b.settings, t.3 ∙ fault-keeps (heard_at (row_at rows i) minute) fault place ∙ sym b.reading)

-- An enrolment that answered 0.
started-by : (rows after : List Row) (settings address gauge : ℕ) (answer : Looked) → LooksUp after address answer → Enrolled rows settings address gauge 0 after → (answer.number ≡ 0) × (answer.fault ≡ 0) × (answer.settings ≡ settings) × (last_told answer ≡ none) × (answer.place ≡ 0) × (answer.faulty ≡ 0) × (minute_told answer ≡ never) × (answer.gauge ≡ gauge_told gauge)
started-by rows after settings address gauge answer looks (not-enrolled z e) = not-zero 0 z refl
started-by rows after settings address gauge answer looks (took z a u p e) =
    let i : ℕ = place_free (board_of rows) in
    let only : OnlyRow rows i (new_row settings address gauge) after = set-only rows after i (new_row settings address gauge) p.place e in
    told-set rows after address i (new_row settings address gauge) answer only a p.place (record { used = refl; same = refl })
    (λ j k h. u j (record { counts = omega (arith, p.place.counts); lent = omega (arith, p.place.lent) }) h) looks

-- Calls of another transmitter. The row that is set held the other address, or none, and holds the other address, or none.
module _ (rows after : List Row) (address other : ℕ) (ne : other ≡ address → ⊥) where
  not-both : (row : Row) → row.address ≡ other → Holds row address → ⊥
  not-both row e h = ne (sym e ∙ h.same)

  free-holds-none : (row : Row) → is_free row ≡ true → Holds row address → ⊥
  free-holds-none row f h = let u : not (is_free row) ≡ true = h.used in let z : ◌≡◌ {A = Bool} false true = sym (ap not f) ∙ u in let bad : ◌≡◌ {A = ℕ} 0 1 = cc in omega arith

  hear-by : (minute count : ℕ) (reply : List ℕ) (answer : Heard) → HearDone rows minute other count reply answer after → Apart rows after address
  hear-by minute count reply answer (not-heard z l e) = apart-same rows after address e
  hear-by minute count reply answer (faulty l a p e n) =
      apart-set rows after address _ _ (set-only rows after _ _ p.place e) (not-both (row_at rows (place_of other (board_of rows))) p.here.same) (not-both (with_fault (heard_at (row_at rows (place_of other (board_of rows))) minute) answer.number answer.place) p.here.same)
  hear-by minute count reply answer (well-heard z a p f e) =
      apart-set rows after address _ _ (set-only rows after _ _ p.place e) (not-both (row_at rows (place_of other (board_of rows))) p.here.same) (not-both _ p.here.same)

  enrol-by : (settings gauge answer : ℕ) → Enrolled rows settings other gauge answer after → Apart rows after address
  enrol-by settings gauge answer (not-enrolled z e) = apart-same rows after address e
  enrol-by settings gauge answer (took z a u p e) =
      apart-set rows after address _ _ (set-only rows after _ (new_row settings other gauge) p.place e) (free-holds-none (row_at rows (place_free (board_of rows))) p.free) (not-both (new_row settings other gauge) refl)

  remove-by : (answer : ℕ) → Removed rows other answer after → Apart rows after address
  remove-by answer (not_removed z e) = apart-same rows after address e
  remove-by answer (gave z a p e) =
      apart-set rows after address _ _ (set-only rows after _ free_row p.place e) (not-both (row_at rows (place_of other (board_of rows))) p.here.same) (free-holds-none free_row refl)

pub board-readings : BoardReadings as_it_was
board-readings =
    record {
      heard = λ rows after minute address count place reply told hears looks. heard-then-looked rows after minute address count place reply told looks hears;
      accepted = λ rows after minute address count place reply told hears looks. was-accepted rows after minute address count place reply told looks hears;
      kept = λ rows after minute address count fault place reply before told set looked hears looks. kept_by rows after minute address count fault place reply before told set looked looks (hear-done rows minute address count reply (heard_as fault place) after hears);
      started = λ rows after settings address gauge told enrols looks. started-by rows after settings address gauge told looks (enrol-done rows settings address gauge 0 after enrols);
      hear_apart = λ rows after minute address other count reply answer before told ne looked hears looks. apart-look rows after address (hear-by rows after address other ne minute count reply answer (hear-done rows minute other count reply answer after hears)) before told looked looks;
      enrol_apart = λ rows after settings address gauge other answer before told ne looked enrols looks. apart-look rows after address (enrol-by rows after address other ne settings gauge answer (enrol-done rows settings other gauge answer after enrols)) before told looked looks;
      remove_apart = λ rows after address other answer before told ne looked removes looks. apart-look rows after address (remove-by rows after address other ne answer (remove-done rows other answer after removes)) before told looked looks;
    }
