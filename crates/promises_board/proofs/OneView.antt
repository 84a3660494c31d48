-- One call and the view, of the board as it was (`OldView`). The number of a look is that of finding the address, so boards of one view have the same addresses on them and tell the same
-- of their rows; each call's number follows by its cases. What a look tells after a call of its address is worked out from what it told before and
-- from the answer alone; a call of another address leaves it (`Readings`).
use mathlib.Core.Path.{◌≡◌, refl, sym, ◌∙◌, ap, subst}
use mathlib.Core.Bool.{Bool, true, false, not, ◌&&◌, ◌||◌}
use mathlib.Core.List.{List, ◌++◌}
use Prim.Native.Nat.{ℕ, ◌<◌, ◌≤◌}
use native.Mathlib.Omega.{arith}
use lib.Dec.{eqb}
use lib.ListN.{length, drop}
use borrow.Author.Tests.{eqb-true, eqb-false, ne_eqb, lt-ltb, le-ltb, ltb-true, ltb-false}
use Rattle.frame.specs.Kinds.{is_set}
use Rattle.frame.specs.Line.{line, first_bytes, formed}
use Rattle.frame.specs.Level.{level_of, place_lost}
use Rattle.frame.specs.Pick.{pick}
use Rattle.frame.specs.Poll.{poll_line}
use Rattle.frame.specs.Reply.{is1800, mode_in, reply_fault, reading_at}
use Rattle.board.specs.declared.Heard.{Heard}
use Rattle.board.specs.declared.Looked.{Looked}
use Rattle.board.specs.declared.Row.{Row}
use Rattle.board.specs.Gauge.{Profile, is6500, outside, outside_by, profile_misplaced, gauge_told, at_once}
use Rattle.board.specs.Row.{free_row, new_row, heard_at, with_reading, with_fault, sets_fault, more}
use Rattle.board.specs.Rows.{board_of, place_of, place_free, row_of}
use Rattle.board.specs.Calls.{row_poll_number, row_poll_bytes, heard_as, enrol_number, hear_number, hear_place, find_number, looked_at, row_told, refused_look}
use Rattle.promises_order.specs.OldBoard.{OldEnrols as Enrols, OldHears as Hears, OldRemoves as Removes, OldPollsRow as PollsRow}
use Rattle.board.specs.Inside.ByValue.{may_poll}
use Rattle.board.proofs.Gauges.{profile-told, mark-told}
use Rattle.board.proofs.Faults.{sets-some}
use Rattle.board.proofs.Numbers.{enrol-10, enrol-11, enrol-27, enrol-18, enrol-19, enrol-0, hear-11, hear-14, hear-17, read_number, hear-read, find-0, may-11, may-17, may-by, denied, or_poll, polled}
use Rattle.promises_order.specs.Places.{row_at, OnBoard}
use Rattle.promises_board.specs.Calls.{Holds, IsRowOf, OnlyRow}
use Rattle.promises_board.specs.History.{NoneTwice}
use Rattle.promises_board.specs.View.{FreeAlike}
use Rattle.promises_board.proofs.OldView.{view, SameView}
use Rattle.promises_frame.proofs.Cases.{by-lt}
use Rattle.promises_board.proofs.After.{look-told, no_place}
use Rattle.promises_board.proofs.Done.{set-only, found-on, Enrolled, not-enrolled, took, enrol-done, Removed, not_removed, gave, remove-done, HearDone, not-heard, faulty, good, hear-done}
use Rattle.promises_board.proofs.Told.{kind-zero}
use Rattle.promises_board.proofs.Readings.{still, looked-row, looked-unknown, board-readings}
use Rattle.promises_board.proofs.Since.{gone-after}

-- The number of a look is that of finding the address.
view-number : (rows : List Row) (address : ℕ) → (view rows address).number ≡ find_number (board_of rows) address
unfolding looked_at
view-number rows address = go (find_number (board_of rows) address) (eqb (find_number (board_of rows) address) 0) refl
  where
    go : (n : ℕ) (t : Bool) → eqb n 0 ≡ t → (pick t (row_told (row_of address (board_of rows))) (refused_look n)).number ≡ n
    go n true e = sym (eqb-true n 0 e)
    go n false e = refl

-- Boards of one view: the same addresses are on them, and the same is told of their rows.
module _ (rows others : List Row) (same : SameView rows others) (address : ℕ) where
  pub same-find : find_number (board_of rows) address ≡ find_number (board_of others) address
  same-find = sym (view-number rows address) ∙ ap (λ (l : Looked). l.number) (same address) ∙ view-number others address

  on-other : address ≤ 999 → place_of address (board_of rows) < length (board_of rows) → place_of address (board_of others) < length (board_of others)
  on-other a l = (found-on others address (sym same-find ∙ find-0 (board_of rows) address a l)).1

  same-told : address ≤ 999 → place_of address (board_of rows) < length (board_of rows) → row_told (row_of address (board_of rows)) ≡ row_told (row_of address (board_of others))
  same-told a l =
      sym (look-told (board_of rows) address (find-0 (board_of rows) address a l))
      ∙ same address
      ∙ look-told (board_of others) address (find-0 (board_of others) address a (on-other a l))

  same-settings : address ≤ 999 → place_of address (board_of rows) < length (board_of rows) → (row_of address (board_of rows)).settings ≡ (row_of address (board_of others)).settings
  same-settings a l = ap (λ (t : Looked). t.settings) (same-told a l)

  same-gauge : address ≤ 999 → place_of address (board_of rows) < length (board_of rows) → gauge_told (row_of address (board_of rows)).gauge ≡ gauge_told (row_of address (board_of others)).gauge
  same-gauge a l = ap (λ (t : Looked). t.gauge) (same-told a l)

off-other : (rows others : List Row) → SameView rows others → (address : ℕ) → address ≤ 999 → length (board_of rows) ≤ place_of address (board_of rows) → length (board_of others) ≤ place_of address (board_of others)
off-other rows others same address a l =
    by-lt (place_of address (board_of others)) (length (board_of others))
    (λ k. let m = on-other others rows (λ b. sym (same b)) address a k in absurd (omega arith))
    (λ k. k)

-- The numbers.
module _ (rows others : List Row) (same : SameView rows others) (free : FreeAlike rows others) where
  free_other : place_free (board_of rows) < length (board_of rows) → place_free (board_of others) < length (board_of others)
  free_other l = ltb-true _ _ (sym free ∙ lt-ltb (place_free (board_of rows)) (length (board_of rows)) l)

  full-other : length (board_of rows) ≤ place_free (board_of rows) → length (board_of others) ≤ place_free (board_of others)
  full-other l = ltb-false _ _ (sym free ∙ le-ltb (place_free (board_of rows)) (length (board_of rows)) l)

  pub same-enrol : (settings address gauge : ℕ) → enrol_number (board_of rows) settings address gauge ≡ enrol_number (board_of others) settings address gauge
  same-enrol settings address gauge =
      by-lt 15 settings (λ s. enrol-10 x settings address gauge s ∙ sym (enrol-10 y settings address gauge s))
      (λ s. by-lt 999 address (λ a. enrol-11 x settings address gauge s a ∙ sym (enrol-11 y settings address gauge s a))
      (λ a. fit s a (profile_misplaced settings gauge) refl))
    where
      x : List Row
      x = board_of rows

      y : List Row
      y = board_of others

      fit : settings ≤ 15 → address ≤ 999 → (t : Bool) → profile_misplaced settings gauge ≡ t → enrol_number (board_of rows) settings address gauge ≡ enrol_number (board_of others) settings address gauge
      fit s a true p = enrol-27 x settings address gauge s a p ∙ sym (enrol-27 y settings address gauge s a p)
      fit s a false p =
          by-lt (place_of address x) (length x)
          (λ l. enrol-18 x settings address gauge s a p l ∙ sym (enrol-18 y settings address gauge s a p (on-other rows others same address a l)))
          (λ l. by-lt (place_free x) (length x)
          (λ f. enrol-0 x settings address gauge s a p l f ∙ sym (enrol-0 y settings address gauge s a p (off-other rows others same address a l) (free_other f)))
          (λ f. enrol-19 x settings address gauge s a p l f ∙ sym (enrol-19 y settings address gauge s a p (off-other rows others same address a l) (full-other f))))

module _ (address count : ℕ) (reply : List ℕ) where
  abbrev said : List Row → Heard
  said board = heard_as (hear_number board address count reply) (hear_place board address count reply)

  -- a number that names no place
  refused : (board : List Row) (n : ℕ) → eqb n 7 ≡ false → hear_number board address count reply ≡ n → said board ≡ heard_as n 0
  refused board n f e =
      ap (λ (m : ℕ). heard_as m (hear_place board address count reply)) e
      ∙ ap (heard_as n) (no_place board 0 address count reply (ap (λ (m : ℕ). eqb m 7) e ∙ f))

  both-refused : (x y : List Row) (n : ℕ) → eqb n 7 ≡ false → hear_number x address count reply ≡ n → hear_number y address count reply ≡ n → said x ≡ said y
  both-refused x y n f e g = refused x n f e ∙ sym (refused y n f g)

  -- the place, by the settings and the number
  abbrev named : ℕ → ℕ → ℕ
  named settings n = pick (eqb n 7) (place_lost (level_of (mode_in settings) (line reply))) 0

  both_read : (x y : List Row) → (row_of address x).settings ≡ (row_of address y).settings → hear_number x address count reply ≡ hear_number y address count reply → said x ≡ said y
  unfolding hear_place
  both_read x y s n =
      ap (λ (m : ℕ). heard_as m (named (row_of address x).settings m)) n
      ∙ ap (λ (k : ℕ). heard_as (hear_number y address count reply) (named k (hear_number y address count reply))) s

  -- what a row gives, by its settings and by what is told of its gauge
  abbrev given : ℕ → ℕ → ℕ
  given settings gauge =
      pick (not (eqb (reply_fault settings address count reply) 0)) (reply_fault settings address count reply)
      (pick (outside_by settings gauge (reading_at settings count (line reply)).temperature) 26 0)

  by-told : (row : Row) → read_number address count reply row ≡ given row.settings (gauge_told row.gauge)
  by-told row =
      ap (λ (p : Profile). pick (not (eqb (reply_fault row.settings address count reply) 0)) (reply_fault row.settings address count reply) (pick (not (is1800 row.settings) && outside p (reading_at row.settings count (line reply)).temperature) 26 0))
      (sym (profile-told row.gauge))

  pub same-hear : (rows others : List Row) → SameView rows others → said (board_of rows) ≡ said (board_of others)
  same-hear rows others same =
      by-lt 999 address (λ a. both-refused x y 11 refl (hear-11 x address count reply a) (hear-11 y address count reply a))
      (λ a. form a (formed count reply) refl)
    where
      x : List Row
      x = board_of rows

      y : List Row
      y = board_of others

      form : address ≤ 999 → (t : Bool) → formed count reply ≡ t → said (board_of rows) ≡ said (board_of others)
      form a false f = both-refused x y 14 refl (hear-14 x address count reply a f) (hear-14 y address count reply a f)
      form a true f =
          by-lt (place_of address x) (length x)
          (λ l. let s = same-settings rows others same address a l in
          both_read x y s
          (hear-read x address count reply a f l ∙ by-told (row_of address x)
          ∙ ap (λ (k : ℕ). given k (gauge_told (row_of address x).gauge)) s
          ∙ ap (given (row_of address y).settings) (same-gauge rows others same address a l)
          ∙ sym (hear-read y address count reply a f (on-other rows others same address a l) ∙ by-told (row_of address y))))
          (λ l. both-refused x y 17 refl (hear-17 x address count reply a f l) (hear-17 y address count reply a f (off-other rows others same address a l)))

-- What a look tells of a row on the board, and after that row alone was set to one that holds the address.
row-view : (rows : List Row) (address : ℕ) → address ≤ 999 → (i : ℕ) → IsRowOf rows address i → view rows address ≡ row_told (row_at rows i)
row-view rows address = looked-row rows address (view rows address) (record { answers = refl })

set_view : (rows after : List Row) (address i : ℕ) (row : Row) → OnlyRow rows i row after → address ≤ 999 → OnBoard rows i → Holds row address
    → ((j : ℕ) → j < i → Holds (row_at rows j) address → ⊥) → view after address ≡ row_told row
set_view rows after address i row only a p h first = row-view after address a i (still rows after address i row only p h first) ∙ ap row_told only.own

-- A look after a hearing of its address, from the look before and what was heard: a fault with its place, or a good reply.
abbrev fault_by : Looked → Bool → (minute fault place : ℕ) → Looked
fault_by l none minute fault place =
    record {
      minute = l.minute;
      address = l.address;
      level = l.level;
      tenths = l.tenths;
      settings = l.settings;
      fault = fault;
      number = 0;
      kind = l.kind;
      alarm1 = l.alarm1;
      alarm0 = l.alarm0;
      heard = pick (none && eqb fault 0) 0 minute;
      faulty = more l.faulty;
      place = pick (eqb fault 7) place 0;
      gauge = l.gauge;
    }

abbrev fault_view : Looked → (minute fault place : ℕ) → Looked
fault_view l minute fault place = fault_by l (eqb l.kind 0) minute fault place

fault-view : (row : Row) (minute fault place : ℕ) → row_told (with_fault (heard_at row minute) fault place) ≡ fault_view (row_told row) minute fault place
fault-view row minute fault place = ap (λ (t : Bool). fault_by (row_told row) t minute fault place) (sym (kind-zero row))

-- the same with this gauge
abbrev gauged : ℕ → Looked → Looked
gauged gauge l =
    record {
      minute = l.minute;
      address = l.address;
      level = l.level;
      tenths = l.tenths;
      settings = l.settings;
      fault = l.fault;
      number = l.number;
      kind = l.kind;
      alarm1 = l.alarm1;
      alarm0 = l.alarm0;
      heard = l.heard;
      faulty = l.faulty;
      place = l.place;
      gauge = gauge;
    }

abbrev good_view : Looked → (minute count : ℕ) → List ℕ → Looked
good_view l minute count reply =
    gauged l.gauge (row_told (with_reading (heard_at (new_row l.settings l.address 0) minute) (reading_at l.settings count (line reply)) minute))

abbrev heard_view : Looked → (minute count : ℕ) → List ℕ → Heard → Looked
heard_view l minute count reply answer =
    pick (eqb answer.number 0) (good_view l minute count reply)
    (pick (sets_fault answer.number) (fault_view l minute answer.number answer.place) l)

module _ (rows after : List Row) (address : ℕ) where
  unmoved : after ≡ rows → view after address ≡ view rows address
  unmoved e = ap (λ (zs : List Row). view zs address) e

  pub hear-view : (minute count : ℕ) (reply : List ℕ) (answer : Heard) → HearDone rows minute address count reply answer after → view after address ≡ heard_view (view rows address) minute count reply answer
  hear-view minute count reply answer (not-heard n f e) = rw (n, f) (unmoved e)
  hear-view minute count reply answer (faulty f x p e w) =
      let i : ℕ = place_of address (board_of rows) in
      let next : Row = with_fault (heard_at (row_at rows i) minute) answer.number answer.place in
      let some = sets-some answer.number f in
      let l : Looked = view rows address in
      let bad : Looked = fault_view l minute answer.number answer.place in
      set_view rows after address i next (set-only rows after i next p.place e) x p.place (record { used = p.here.used; same = p.here.same }) p.first
      ∙ fault-view (row_at rows i) minute answer.number answer.place
      ∙ ap (λ (k : Looked). fault_view k minute answer.number answer.place) (sym (row-view rows address x i p))
      ∙ sym (ap (λ (t : Bool). pick t (good_view l minute count reply) (pick (sets_fault answer.number) bad l)) (ne_eqb answer.number 0 (λ z. omega (arith, some, z)))
      ∙ ap (λ (t : Bool). pick t bad l) f)
  hear-view minute count reply answer (good n x p f e) =
      let i : ℕ = place_of address (board_of rows) in
      let next : Row = with_reading (heard_at (row_at rows i) minute) (reading_at (row_at rows i).settings count (line reply)) minute in
      rw n
      (set_view rows after address i next (set-only rows after i next p.place e) x p.place (record { used = p.here.used; same = p.here.same }) p.first
      ∙ ap (λ (l : Looked). good_view l minute count reply) (sym (row-view rows address x i p)))

  pub enrol-view : (settings gauge answer : ℕ) → Enrolled rows settings address gauge answer after → view after address ≡ pick (eqb answer 0) (row_told (new_row settings address gauge)) (view rows address)
  enrol-view settings gauge answer (not-enrolled z e) = rw z (unmoved e)
  enrol-view settings gauge answer (took z x u p e) =
      let i : ℕ = place_free (board_of rows) in
      rw z
      (set_view rows after address i (new_row settings address gauge) (set-only rows after i (new_row settings address gauge) p.place e) x p.place (record { used = refl; same = refl })
      (λ j k h. u j (record { counts = omega (arith, p.place.counts); lent = omega (arith, p.place.lent) }) h))

  pub remove-view : (answer : ℕ) → NoneTwice rows → Removed rows address answer after → view after address ≡ pick (eqb answer 0) (refused_look 17) (view rows address)
  remove-view answer once (not_removed z e) = rw z (unmoved e)
  remove-view answer once (gave z x p e) =
      let i : ℕ = place_of address (board_of rows) in
      rw z
      (looked-unknown after address (view after address) (record { answers = refl }) x
      (gone-after rows after address i once p (set-only rows after i free_row p.place e)))

-- Two boards after a call of one address, where the looks at other addresses are as they were.
module _ (rows others after later : List Row) (same : SameView rows others) (address : ℕ) where
  view-after : view after address ≡ view later address → ((b : ℕ) → (address ≡ b → ⊥) → view after b ≡ view rows b) → ((b : ℕ) → (address ≡ b → ⊥) → view later b ≡ view others b) → SameView after later
  view-after own kept kept-too b = go (eqb address b) refl
    where
      go : (t : Bool) → eqb address b ≡ t → view after b ≡ view later b
      go true t = subst (λ (k : ℕ). view after k ≡ view later k) (eqb-true address b t) own
      go false t = let ne = eqb-false address b t in kept b ne ∙ same b ∙ sym (kept-too b ne)

  pub enrol-same : (settings gauge a b : ℕ) → a ≡ b → Enrols rows settings address gauge a after → Enrols others settings address gauge b later → SameView after later
  enrol-same settings gauge a b is e f =
      view-after
      (enrol-view rows after address settings gauge a (enrol-done rows settings address gauge a after e)
      ∙ ap (λ (l : Looked). pick (eqb a 0) (row_told (new_row settings address gauge)) l) (same address)
      ∙ ap (λ (n : ℕ). pick (eqb n 0) (row_told (new_row settings address gauge)) (view others address)) is
      ∙ sym (enrol-view others later address settings gauge b (enrol-done others settings address gauge b later f)))
      (λ k ne. board-readings.enrol_apart rows after settings k gauge address a (view rows k) (view after k) ne (record { answers = refl }) e (record { answers = refl }))
      (λ k ne. board-readings.enrol_apart others later settings k gauge address b (view others k) (view later k) ne (record { answers = refl }) f (record { answers = refl }))

  pub hear-same : (minute count : ℕ) (reply : List ℕ) (a b : Heard) → a ≡ b → Hears rows minute address count reply a after → Hears others minute address count reply b later → SameView after later
  hear-same minute count reply a b is e f =
      view-after
      (hear-view rows after address minute count reply a (hear-done rows minute address count reply a after e)
      ∙ ap (λ (l : Looked). heard_view l minute count reply a) (same address)
      ∙ ap (heard_view (view others address) minute count reply) is
      ∙ sym (hear-view others later address minute count reply b (hear-done others minute address count reply b later f)))
      (λ k ne. board-readings.hear_apart rows after minute k address count reply a (view rows k) (view after k) ne (record { answers = refl }) e (record { answers = refl }))
      (λ k ne. board-readings.hear_apart others later minute k address count reply b (view others k) (view later k) ne (record { answers = refl }) f (record { answers = refl }))

  pub remove-same : (a b : ℕ) → a ≡ b → NoneTwice rows → NoneTwice others → Removes rows address a after → Removes others address b later → SameView after later
  remove-same a b is once once-too e f =
      view-after
      (remove-view rows after address a once (remove-done rows address a after e)
      ∙ ap (λ (l : Looked). pick (eqb a 0) (refused_look 17) l) (same address)
      ∙ ap (λ (n : ℕ). pick (eqb n 0) (refused_look 17) (view others address)) is
      ∙ sym (remove-view others later address b once-too (remove-done others address b later f)))
      (λ k ne. board-readings.remove_apart rows after k address a (view rows k) (view after k) ne (record { answers = refl }) e (record { answers = refl }))
      (λ k ne. board-readings.remove_apart others later k address b (view others k) (view later k) ne (record { answers = refl }) f (record { answers = refl }))

-- A row's poll: what is told of the gauge tells its mark.
module _ (rows others : List Row) (same : SameView rows others) (address raise reset : ℕ) (out : List ℕ) where
  same-denied : address ≤ 999 → place_of address (board_of rows) < length (board_of rows) → denied (board_of rows) address raise reset ≡ denied (board_of others) address raise reset
  same-denied a l =
      ap by-mark (sym (mark-told (row_of address (board_of rows)).gauge) ∙ ap is6500 (same-gauge rows others same address a l) ∙ mark-told (row_of address (board_of others)).gauge)
    where
      by-mark : Bool → Bool
      by-mark t = not t && (is_set raise || is_set reset)

  same-may : may_poll (board_of rows) address raise reset ≡ may_poll (board_of others) address raise reset
  same-may =
      by-lt 999 address (λ a. may-11 (board_of rows) address raise reset a ∙ sym (may-11 (board_of others) address raise reset a))
      (λ a. by-lt (place_of address (board_of rows)) (length (board_of rows))
      (λ l. may-by (board_of rows) address raise reset a l ∙ ap (λ (t : Bool). pick t 28 (pick (at_once raise reset) 28 0)) (same-denied a l) ∙ sym (may-by (board_of others) address raise reset a (on-other rows others same address a l)))
      (λ l. may-17 (board_of rows) address raise reset a l ∙ sym (may-17 (board_of others) address raise reset a (off-other rows others same address a l))))

  same-polled : row_poll_number (board_of rows) address raise reset out ≡ row_poll_number (board_of others) address raise reset out
  same-polled = sym (polled (board_of rows) address raise reset out) ∙ ap (λ (n : ℕ). or_poll n address out) same-may ∙ polled (board_of others) address raise reset out

  pub poll-same : (a b : ℕ) (after later : List ℕ) → PollsRow rows address raise reset out a after → PollsRow others address raise reset out b later → (a ≡ b) × (after ≡ later)
  unfolding row_poll_bytes
  poll-same a b after later e f = (
    e.answers ∙ same-polled ∙ sym f.answers,
    e.leaves ∙ ap (λ (n : ℕ). pick (eqb n 0) (first_bytes 2 (poll_line address (is_set raise) (is_set reset)) ++ drop 2 out) out) same-polled ∙ sym f.leaves,
  )
