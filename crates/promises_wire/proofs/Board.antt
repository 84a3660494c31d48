-- The board, hearing by hearing: a hearing leaves every address its row, settings and gauge; what it does to a look of its own address is the board's promise of readings, by
-- what the poll says, and a look of any other address stays.
use mathlib.Core.Path.{◌≡◌, refl, sym, ap, subst, ◌∙◌}
use mathlib.Core.Bool.{Bool, true, false, not}
use mathlib.Core.List.{List, [], ◌∷◌, ◌++◌, append-nil, append_assoc}
use Prim.Native.Nat.{ℕ, ◌≤◌}
use native.Mathlib.Omega.{arith}
use borrow.Author.Tests.{ne_eqb, eqb-true, eqb-false, le-leb}
use lib.Dec.{eqb}
use lib.ListN.{length}
use Rattle.frame.specs.declared.Reading.{Reading}
use Rattle.frame.specs.Pick.{pick}
use Rattle.frame.specs.Line.{formed}
use Rattle.frame.specs.Reply.{ReadsReply, reply_of}
use Rattle.sheet.specs.Record.{Entry}
use Rattle.board.specs.declared.Heard as board
use Rattle.board.specs.declared.Looked.{Looked}
use Rattle.board.specs.declared.Row.{Row}
use Rattle.board.specs.Gauge.{outside_by}
use Rattle.board.specs.Row.{good, at, more, sets_fault, heard_at, with_reading, with_fault}
use Rattle.board.specs.Calls.{Hears, LooksUp, heard_as, last_told}
use Rattle.promises_frame.proofs.Cases.{by-lt}
use Rattle.promises_order.specs.Places.{row_at}
use Rattle.promises_order.specs.Order.{SoKept}
use Rattle.promises_order.specs.Calls.{hear}
use Rattle.promises_board.specs.Calls.{Holds, IsRowOf, Known, at_row, unknown, OnlyRow, HearPromise}
use Rattle.promises_board.specs.Profiles.{Checked, out, not_out}
use Rattle.promises_board.specs.History.{begun, called}
use Rattle.promises_board.specs.View.{view}
use Rattle.promises_board.proofs.Calls.{board-one-outcome}
use Rattle.promises_board.proofs.Done.{board-cases}
use Rattle.promises_board.proofs.Ranges.{is-out, is-in}
use Rattle.promises_board.proofs.Now.{board-calls, readings-now}
use Rattle.promises_board.proofs.HistoryNow.{stays-kept}
use Rattle.promises_wire.specs.Polls.{bits_sensed, Poll}
use Rattle.promises_wire.specs.Heard.{HeardOnLines}
use Rattle.promises_wire.specs.Board.{OnTheBoard, none_heard, heard_next, BoardShows, shows_in, after_fault, after_reply, shown_by}
use Rattle.promises_wire.specs.Month.{Replies, one_polled}
use Rattle.promises_wire.specs.TankToDesk.{BySettings, no-poll, one_poll}
use Rattle.promises_wire.proofs.Polled.{heard-so, same-held, read_held}
use Rattle.std.specs.Prelude.{Result, Ok, Err}
use Rattle.frame.specs.declared.faults.Fault.{Fault}
use Rattle.frame.specs.Faults.{number_of, place_named}

-- A row whose owner is the same.
record SameOwner (new old : Row) : Type 0 where
  used : new.used ≡ old.used
  address : new.address ≡ old.address
  settings : new.settings ≡ old.settings
  gauge : new.gauge ≡ old.gauge

-- What a hearing did: nothing, or one row is heard, and its owner is the same.
data Did (rows : List Row) (after : List Row) : Type 0 where
  nothing_done : after ≡ rows → Did rows after
  one_heard : (j : ℕ) (new : Row) → OnlyRow rows j new after → SameOwner new (row_at rows j) → Did rows after

same-owner : (row : Row) → SameOwner row row
same-owner row = record { used = refl; address = refl; settings = refl; gauge = refl }

owner-is : {new old row : Row} → row ≡ new → SameOwner new old → SameOwner row old
owner-is {new} {old} {row} e s = subst (λ (r : Row). SameOwner r old) (sym e) s

fault-owner : (row : Row) (minute fault place : ℕ) → SameOwner (with_fault (heard_at row minute) fault place) row
fault-owner row minute fault place = record { used = refl; address = refl; settings = refl; gauge = refl }

good-owner : (row : Row) (minute : ℕ) (r : Reading) → SameOwner (with_reading (heard_at row minute) r minute) row
good-owner row minute r = record { used = refl; address = refl; settings = refl; gauge = refl }

-- every row keeps its owner
owners : {rows after : List Row} → Did rows after → (i : ℕ) → SameOwner (row_at after i) (row_at rows i)
owners {rows} {after} (nothing_done e) i = subst (λ (l : List Row). SameOwner (row_at l i) (row_at rows i)) (sym e) (same-owner (row_at rows i))
owners {rows} {after} (one_heard j new o s) i = go (eqb i j) refl
  where
    go : (b : Bool) → eqb i j ≡ b → SameOwner (row_at after i) (row_at rows i)
    go true e = subst (λ (k : ℕ). SameOwner (row_at after k) (row_at rows k)) (sym (eqb-true i j e)) (owner-is o.own s)
    go false e = owner-is (o.others i (eqb-false i j e)) (same-owner (row_at rows i))

as_many : {rows after : List Row} → Did rows after → length after ≡ length rows
as_many (nothing_done e) = ap length e
as_many (one_heard j new o s) = o.as_many

holds-so : {new old : Row} {address : ℕ} → SameOwner new old → Holds old address → Holds new address
holds-so {new} {old} s h = record { used = ap (λ (k : ℕ). not (eqb k 0)) s.used ∙ h.used; same = s.address ∙ h.same }

holds-back : {new old : Row} {address : ℕ} → SameOwner new old → Holds new address → Holds old address
holds-back {new} {old} s h = record { used = ap (λ (k : ℕ). not (eqb k 0)) (sym s.used) ∙ h.used; same = sym s.address ∙ h.same }

row_stays : {rows after : List Row} → Did rows after → (address i : ℕ) → IsRowOf rows address i → IsRowOf after address i
row_stays d address i r =
    record {
      place = record { counts = r.place.counts; lent = omega (arith, as_many d, r.place.lent) };
      here = holds-so (owners d i) r.here;
      first = λ j l h. r.first j l (holds-back (owners d j) h);
    }

-- one hearing
module _ (rows : List Row) (kept : SoKept rows) (minute address count : ℕ) (bytes : List ℕ) (answer : board.Heard) (after : List Row) (small : address ≤ 999)
    (shaped : formed count bytes ≡ true) (call : Hears rows minute address count bytes answer after) where
  promise : HearPromise rows minute address count bytes answer after
  promise = board-calls.hear rows minute address count bytes answer after kept call

  kept-after : SoKept after
  kept-after = stays-kept.so-kept rows after kept (called (hear minute address count bytes) answer begun call)

  by-reading : (i : ℕ) → IsRowOf rows address i → (row_at rows i).settings ≤ 15 → (y : Result Reading Fault) → ReadsReply (row_at rows i).settings address count bytes y → Did rows after
  by-reading i r fine (Ok x) reads = go (board-cases.range (row_at rows i) x.temperature)
    where
      go : Checked (row_at rows i) x.temperature → Did rows after
      go (out o) = one_heard i (with_fault (heard_at (row_at rows i) minute) 26 0) (promise.outside small shaped i r x reads o).1 (fault-owner (row_at rows i) minute 26 0)
      go (not_out o) = one_heard i (with_reading (heard_at (row_at rows i) minute) x minute) (promise.heard small shaped i r x reads o).1 (good-owner (row_at rows i) minute x)
  by-reading i r fine (Err f) reads =
      one_heard i (with_fault (heard_at (row_at rows i) minute) (number_of f) (place_named f)) (promise.faulty small shaped i r fine f reads).3
      (fault-owner (row_at rows i) minute (number_of f) (place_named f))

  did : Did rows after
  did = go (board-cases.address rows address)
    where
      go : Known rows address → Did rows after
      go (unknown u) = nothing_done (promise.unknown small shaped u).1
      go (at_row i r) =
          by-lt 15 (row_at rows i).settings (λ big. nothing_done (promise.bad_settings small shaped i r big).1)
          (λ fine. by-reading i r fine (reply_of (row_at rows i).settings address count bytes) (record { answers = refl }))

-- What stands of an address on a board.
pub record Stands (rows : List Row) (address settings gauge : ℕ) (s : BoardShows) : Type 0 where
  pub so-kept : SoKept rows
  pub at_place : ℕ
  pub row : IsRowOf rows address at_place
  pub settings_are : (row_at rows at_place).settings ≡ settings
  pub gauge_is : (row_at rows at_place).gauge ≡ gauge
  pub tells : (told : Looked) → LooksUp rows address told → (told.number ≡ 0) × (shows_in told ≡ s)

-- the one look
abbrev looked : List Row → ℕ → Looked
looked rows address = view rows address

a-look : (rows : List Row) (address : ℕ) → LooksUp rows address (looked rows address)
a-look rows address = record { answers = refl }

set-by : (fault : ℕ) → 1 ≤ fault → fault ≤ 9 → sets_fault fault ≡ true
unfolding sets_fault
set-by fault low high = rw (ne_eqb fault 26 (λ (e : fault ≡ 26). absurd (omega arith)), le-leb 1 fault low, le-leb fault 9 high)

set-26 : sets_fault 26 ≡ true
unfolding sets_fault
set-26 = refl

module _ (rows : List Row) (minute address count : ℕ) (bytes : List ℕ) (answer : board.Heard) (after : List Row) (small : address ≤ 999)
    (shaped : formed count bytes ≡ true) (call : Hears rows minute address count bytes answer after) where
  -- its own address
  module _ (settings gauge : ℕ) (fine : settings ≤ 15) (s : BoardShows) (st : Stands rows address settings gauge s) where
    abbrev i : ℕ
    i = st.at_place

    abbrev before : Looked
    before = looked rows address

    was : shows_in before ≡ s
    was = (st.tells before (a-look rows address)).1

    done : Did rows after
    done = did rows st.so-kept minute address count bytes answer after small shaped call

    said_of : HearPromise rows minute address count bytes answer after
    said_of = promise rows st.so-kept minute address count bytes answer after small shaped call

    still-there : IsRowOf after address i
    still-there = row_stays done address i st.row

    settings-stay : (row_at after i).settings ≡ settings
    settings-stay = (owners done i).settings ∙ st.settings_are

    -- what is asked of the rows is asked by these settings and this gauge
    read-there : (y : Result Reading Fault) → ReadsReply settings address count bytes y → ReadsReply (row_at rows i).settings address count bytes y
    read-there y r = subst (λ (k : ℕ). ReadsReply k address count bytes y) (sym st.settings_are) r

    outside-there : (x : Reading) → outside_by (row_at rows i).settings (row_at rows i).gauge x.temperature ≡ outside_by settings gauge x.temperature
    outside-there x = λ k. outside_by (st.settings_are k) (st.gauge_is k) x.temperature

    module _ (told : Looked) (look : LooksUp after address told) where
      by-fault : (fault place : ℕ) → answer ≡ heard_as fault place → sets_fault fault ≡ true → (told.number ≡ 0) × (shows_in told ≡ after_fault minute fault place s)
      by-fault fault place e sets =
          let c : Hears rows minute address count bytes (heard_as fault place) after = subst (λ (a : board.Heard). Hears rows minute address count bytes a after) e call in
          let k = readings-now.kept rows after minute address count fault place bytes before told sets (a-look rows address) c look in (
            k.0,
            (λ n. record { last = k.6 n; fault = k.1 n; place = k.2 n; faulty = k.3 n; minute = k.4 n })
                ∙ ap (after_fault minute fault place) was,
          )

      by-good : (x : Reading) → ReadsReply settings address count bytes (Ok x) → answer ≡ heard_as 0 0
          → (told.number ≡ 0) × (shows_in told ≡ record { last = good x minute; fault = 0; place = 0; faulty = 0; minute = at minute })
      by-good x reads e =
          let c : Hears rows minute address count bytes (heard_as 0 0) after = subst (λ (a : board.Heard). Hears rows minute address count bytes a after) e call in
          let k = readings-now.heard rows after minute address count 0 bytes told c look in
          let kept = kept-after rows st.so-kept minute address count bytes answer after small shaped call in
          let own : told.settings ≡ settings = ((board-calls.look_up after address told kept look).found small i still-there).settings ∙ settings-stay in
          let last : last_told told ≡ good x minute
          = k.5 (record { reading = x; accepted = subst (λ (n : ℕ). ReadsReply n address count bytes (Ok x)) (sym own) reads }) in
          (k.0, λ n. record { last = last n; fault = k.1 n; place = k.2 n; faulty = k.3 n; minute = k.4 n })

      by-says : (y : Result Reading Fault) → ReadsReply settings address count bytes y → (told.number ≡ 0) × (shows_in told ≡ after_reply settings gauge minute y s)
      by-says (Err f) reads =
          let p = said_of.faulty small shaped i st.row (subst (λ (k : ℕ). k ≤ 15) (sym st.settings_are) fine) f (read-there (Err f) reads) in
          by-fault (number_of f) (place_named f) p.0 (set-by (number_of f) p.1 p.2)
      by-says (Ok x) reads = go (board-cases.range (row_at rows i) x.temperature)
        where
          go : Checked (row_at rows i) x.temperature → (told.number ≡ 0) × (shows_in told ≡ after_reply settings gauge minute (Ok x) s)
          go (out o) =
              let b = sym (outside-there x) ∙ is-out (row_at rows i) x.temperature o in
              let r = by-fault 26 0 (said_of.outside small shaped i st.row x (read-there (Ok x) reads) o).0 set-26 in
              (r.0, r.1 ∙ sym (ap (λ (c : Bool). pick c (after_fault minute 26 0 s) (record { last = good x minute; fault = 0; place = 0; faulty = 0; minute = at minute })) b))
          go (not_out o) =
              let b = sym (outside-there x) ∙ is-in (row_at rows i) x.temperature o in
              let r = by-good x reads (said_of.heard small shaped i st.row x (read-there (Ok x) reads) o).0 in
              (r.0, r.1 ∙ sym (ap (λ (c : Bool). pick c (after_fault minute 26 0 s) (record { last = good x minute; fault = 0; place = 0; faulty = 0; minute = at minute })) b))

    own-stands : (y : Result Reading Fault) → ReadsReply settings address count bytes y → Stands after address settings gauge (after_reply settings gauge minute y s)
    own-stands y reads =
        record {
          so-kept = kept-after rows st.so-kept minute address count bytes answer after small shaped call;
          at_place = i;
          row = still-there;
          settings_are = settings-stay;
          gauge_is = (owners done i).gauge ∙ st.gauge_is;
          tells = λ told look. by-says told look y reads;
        }

  -- another address
  other-stands : (other settings gauge : ℕ) (s : BoardShows) → (address ≡ other → ⊥) → Stands rows other settings gauge s → Stands after other settings gauge s
  other-stands other settings gauge s apart st =
      let d = did rows st.so-kept minute address count bytes answer after small shaped call in
      record {
        so-kept = kept-after rows st.so-kept minute address count bytes answer after small shaped call;
        at_place = st.at_place;
        row = row_stays d other st.at_place st.row;
        settings_are = (owners d st.at_place).settings ∙ st.settings_are;
        gauge_is = (owners d st.at_place).gauge ∙ st.gauge_is;
        tells = λ told look.
            let same : told ≡ looked rows other = readings-now.hear_apart rows after minute other address count bytes answer (looked rows other) told apart (a-look rows other) call look in
            let t = st.tells (looked rows other) (a-look rows other) in
            (ap (λ (x : Looked). x.number) same ∙ t.0, ap shows_in same ∙ t.1);
      }

-- A poll more at the end.
shown-more : (settings gauge address : ℕ) (s : BoardShows) (ps : List Poll) (p : Poll)
    → shown_by settings gauge address s (ps ++ p ∷ [])
    ≡ pick (eqb p.asked.address address) (after_reply settings gauge p.asked.minute p.read.says (shown_by settings gauge address s ps)) (shown_by settings gauge address s ps)
unfolding shown_by
shown-more settings gauge address s [] p = refl
shown-more settings gauge address s (q ∷ ps) p =
    shown-more settings gauge address (pick (eqb q.asked.address address) (after_reply settings gauge q.asked.minute q.read.says s) s) ps p

-- The reply that was handed over, as the poll reads it.
poll-form : (p : Poll) (count : ℕ) (bytes : List ℕ) → HeardOnLines p.asked.timing p.sensed.samples count bytes
    → (formed count bytes ≡ true) × ReadsReply p.asked.settings p.asked.address count bytes p.read.says
poll-form p count bytes h =
    let held = heard-so p.asked.timing p.asked.timing-fine p.sensed count bytes refl h in
    let same = same-held (bits_sensed p.asked.timing p.sensed.runs) count p.read.count bytes p.read.bytes held (read_held p.read) in (
      held.in-form,
      record { answers = p.read.reads.answers ∙ sym (λ i. reply_of p.asked.settings p.asked.address (same.0 i) (same.1 i)) },
    )

pub stands : {start : List Row} {ps : List Poll} {rows : List Row} → OnTheBoard start ps rows → (address settings gauge : ℕ) (s : BoardShows) → Stands start address settings gauge s
    → Stands rows address settings gauge (shown_by settings gauge address s ps)
unfolding shown_by
stands none_heard address settings gauge s st = st
stands (heard_next {ps = ps} {rows = rows} {after = after} p count bytes answer b match h call) address settings gauge s st =
    subst (Stands after address settings gauge) (sym (shown-more settings gauge address s ps p)) (one (stands b address settings gauge s st))
  where
    one : Stands rows address settings gauge (shown_by settings gauge address s ps)
        → Stands after address settings gauge (pick (eqb p.asked.address address) (after_reply settings gauge p.asked.minute p.read.says (shown_by settings gauge address s ps)) (shown_by settings gauge address s ps))
    one was = go (eqb p.asked.address address) refl
      where
        f : (formed count bytes ≡ true) × ReadsReply p.asked.settings p.asked.address count bytes p.read.says
        f = poll-form p count bytes h

        go : (c : Bool) → eqb p.asked.address address ≡ c
            → Stands after address settings gauge (pick c (after_reply settings gauge p.asked.minute p.read.says (shown_by settings gauge address s ps)) (shown_by settings gauge address s ps))
        go false e =
            other-stands rows p.asked.minute p.asked.address count bytes answer after p.asked.address_in f.0 call address settings gauge
            (shown_by settings gauge address s ps) (eqb-false p.asked.address address e) was
        go true e =
            let same : p.asked.address ≡ address = eqb-true p.asked.address address e in
            let own : Stands rows p.asked.address settings gauge (shown_by settings gauge address s ps)
            = subst (λ (a : ℕ). Stands rows a settings gauge (shown_by settings gauge address s ps)) (sym same) was in
            let set : p.asked.settings ≡ settings = sym (match own.at_place own.row) ∙ own.settings_are in
            subst (λ (a : ℕ). Stands after a settings gauge (after_reply settings gauge p.asked.minute p.read.says (shown_by settings gauge address s ps))) same
            (own-stands rows p.asked.minute p.asked.address count bytes answer after p.asked.address_in f.0 call settings gauge
            (subst (λ (k : ℕ). k ≤ 15) set p.asked.settings_in) (shown_by settings gauge address s ps) own p.read.says
            (subst (λ (k : ℕ). ReadsReply k p.asked.address count bytes p.read.says) set f.1))

-- The board as a month's promise has it.
pub board-shows : (start : List Row) → SoKept start → (ps : List Poll) (rows : List Row) → OnTheBoard start ps rows
    → (address i : ℕ) → address ≤ 999 → IsRowOf start address i → (before told : Looked) → LooksUp start address before → LooksUp rows address told
    → (told.number ≡ 0) × (shows_in told ≡ shown_by (row_at start i).settings (row_at start i).gauge address (shows_in before) ps)
board-shows start kept ps rows b address i small r before told look later =
    (stands b address (row_at start i).settings (row_at start i).gauge (shows_in before)
    (record {
      so-kept = kept;
      at_place = i;
      row = r;
      settings_are = refl;
      gauge_is = refl;
      tells = λ x y.
          let same : x ≡ before = y.answers ∙ sym look.answers in
          (((board-calls.look_up start address x kept y).found small i r).number, ap shows_in same);
    })
    ).tells told later

-- There is such a board for any polls that were heard: a hearing has an outcome, and who has which settings stays.
row-was : {rows after : List Row} → Did rows after → (address i : ℕ) → IsRowOf after address i → IsRowOf rows address i
row-was d address i r =
    record {
      place = record { counts = r.place.counts; lent = omega (arith, as_many d, r.place.lent) };
      here = holds-back (owners d i) r.here;
      first = λ j l h. r.first j l (holds-so (owners d j) h);
    }

settings-go : {rows after : List Row} → Did rows after → (ps : List Poll) → BySettings rows ps → BySettings after ps
settings-go d [] no-poll = no-poll
settings-go d (q ∷ ps) (one_poll p match more) =
    one_poll p (λ i r. (owners d i).settings ∙ match i (row-was d p.asked.address i r)) (settings-go d ps more)

board-more : (start rows : List Row) (before ps : List Poll) (es : List Entry) → SoKept rows → OnTheBoard start before rows → Replies ps es → BySettings rows ps
    → (after : List Row) × OnTheBoard start (before ++ ps) after
board-more start rows before [] es kept b replies match = (rows, subst (λ (l : List Poll). OnTheBoard start l rows) (sym (append-nil before)) b)
board-more start rows before (q ∷ ps) es kept b (one_polled p count bytes h replies) (one_poll w match more) =
    let o = board-one-outcome.any_call rows (hear p.asked.minute p.asked.address count bytes) in
    let call : Hears rows p.asked.minute p.asked.address count bytes o.some.0 o.some.1 = o.allowed in
    let f = (poll-form p count bytes h).0 in
    let d = did rows kept p.asked.minute p.asked.address count bytes o.some.0 o.some.1 p.asked.address_in f call in
    let next = heard_next p count bytes o.some.0 b match h call in
    let all = board-more start o.some.1 (before ++ p ∷ []) ps _
    (kept-after rows kept p.asked.minute p.asked.address count bytes o.some.0 o.some.1 p.asked.address_in f call) next replies (settings-go d ps more) in
    (all.0, subst (λ (l : List Poll). OnTheBoard start l all.0) (append_assoc before (p ∷ []) ps) all.1)

pub any-board : (start : List Row) → SoKept start → (ps : List Poll) (es : List Entry) → Replies ps es → BySettings start ps → (rows : List Row) × OnTheBoard start ps rows
any-board start kept ps es replies match = board-more start start [] ps es kept none_heard replies match
