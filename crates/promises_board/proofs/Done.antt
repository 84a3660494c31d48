-- What a call has done, by its outcome: nothing, or one row is set. The other way round than the promises: the number that was answered gives the case.
use mathlib.Core.Path.{◌≡◌, refl, sym, ◌∙◌, ap}
use mathlib.Core.Bool.{Bool, true, false, not}
use mathlib.Core.List.{List, ◌++◌}
use Prim.Native.Nat.{ℕ, ◌<◌, ◌≤◌}
use native.Mathlib.Omega.{arith}
use lib.Dec.{eqb}
use lib.ListN.{length, set, length-set}
use lib.Seq.{get_or-set_same, get_or-set_other}
use borrow.Author.Tests.{eqb-true, eqb-false}
use Rattle.frame.specs.Line.{line, formed}
use Rattle.frame.specs.Reply.{reply_fault, reading_at}
use Rattle.board.specs.declared.Heard.{Heard}
use Rattle.board.specs.declared.Row.{Row}
use Rattle.board.specs.Gauge.{profile_misplaced}
use Rattle.board.specs.Row.{is_free, free_row, new_row, with_reading, with_fault, sets_fault, heard_at}
use Rattle.board.specs.Rows.{board_of, beyond, holds, place_of, place_free, row_of}
use Rattle.board.specs.Calls.{enrol_number, hear_number, hear_place, find_number}
use Rattle.promises_order.specs.OldBoard.{OldEnrols as Enrols, OldHears as Hears, OldRemoves as Removes}
use Rattle.board.proofs.Faults.{not-11, not-14, not-17}
use Rattle.board.proofs.Numbers.{enrol-10, enrol-11, enrol-27, enrol-18, enrol-19, hear-11, hear-14, hear-17, read_number, read-zero, hear-read, find-11, find-17}
use Rattle.promises_order.specs.Places.{row_at, OnBoard}
use Rattle.promises_board.specs.Calls.{IsRowOf, Unknown, IsFirstFree, NoFree, at_row, unknown, at-free, none_free, BoardCases, OnlyRow}
use Rattle.promises_board.proofs.Places.{board-on, on-board, same_row, is-holds, place-row, at_place, before-place, set-rows, unchanged}
use Rattle.promises_frame.proofs.Cases.{by-lt}
use Rattle.promises_board.proofs.Ranges.{checked}
use Rattle.promises_board.proofs.After.{enrol-keeps, enrol-sets, remove-keeps, remove-sets, hear-keeps, hear-faults, hear-sets, no_place}

-- One row is set: what it was set to, and where.
pub set-only : (rows after : List Row) (i : ℕ) (row : Row) → OnBoard rows i → after ≡ set rows i row → OnlyRow rows i row after
set-only rows after i row p e =
    record { own = ap (λ (zs : List Row). row_at zs i) e ∙ get_or-set_same rows i row free_row p.lent; others = λ j ne. ap (λ (zs : List Row). row_at zs j) e ∙ get_or-set_other rows i j row free_row ne; as_many = ap length e ∙ length-set rows i row }

module _ (rows : List Row) (address : ℕ) where
  pub off-unknown : length (board_of rows) ≤ place_of address (board_of rows) → Unknown rows address
  off-unknown l i p h =
      let k : i < length (board_of rows) = on-board rows i p in
      let z : holds address (row_at rows i) ≡ false = before-place rows (holds address) i (omega arith) in
      let o : holds address (row_at rows i) ≡ true = is-holds (row_at rows i) address h in
      let bad : ◌≡◌ {A = ℕ} 0 1 = cc in
      omega arith

pub free-first : (rows : List Row) → place_free (board_of rows) < length (board_of rows) → IsFirstFree rows (place_free (board_of rows))
free-first rows l =
    record { place = board-on rows (place_free (board_of rows)) l; free = at_place rows is_free l; first = λ j k. ap not (before-place rows is_free j k) }

off-free : (rows : List Row) → length (board_of rows) ≤ place_free (board_of rows) → NoFree rows
off-free rows l i p = let k : i < length (board_of rows) = on-board rows i p in ap not (before-place rows is_free i (omega arith))

pub board-cases : BoardCases
board-cases =
    record {
      address = λ rows address. by-lt (place_of address (board_of rows)) (length (board_of rows)) (λ l. at_row (place_of address (board_of rows)) (place-row rows address l)) (λ l. unknown (off-unknown rows address l));
      row = λ rows. by-lt (place_free (board_of rows)) (length (board_of rows)) (λ l. at-free (place_free (board_of rows)) (free-first rows l)) (λ l. none_free (off-free rows l));
      range = checked;
    }

-- An enrolment: refused, or the first free row is taken.
pub data Enrolled (rows : List Row) (settings address gauge answer : ℕ) (after : List Row) : Type 0 where
  not-enrolled : eqb answer 0 ≡ false → after ≡ rows → Enrolled rows settings address gauge answer after
  took : answer ≡ 0 → address ≤ 999 → Unknown rows address → IsFirstFree rows (place_free (board_of rows)) → after ≡ set rows (place_free (board_of rows)) (new_row settings address gauge) → Enrolled rows settings address gauge answer after

module _ (rows : List Row) (settings address gauge answer : ℕ) (after : List Row) (e : Enrols rows settings address gauge answer after) where
  abbrev asked : ℕ
  asked = enrol_number (board_of rows) settings address gauge

  not-0 : (n : ℕ) → asked ≡ n → eqb n 0 ≡ false → asked ≡ 0 → ⊥
  not-0 n is z o = eqb-false n 0 z (sym is ∙ o)

  in-range : asked ≡ 0 → address ≤ 999
  in-range z =
      by-lt 15 settings (λ s. absurd (not-0 10 (enrol-10 (board_of rows) settings address gauge s) refl z))
      (λ s. by-lt 999 address (λ a. absurd (not-0 11 (enrol-11 (board_of rows) settings address gauge s a) refl z)) (λ a. a))

  fits : asked ≡ 0 → profile_misplaced settings gauge ≡ false
  fits z = go (profile_misplaced settings gauge) refl
    where
      go : (t : Bool) → profile_misplaced settings gauge ≡ t → profile_misplaced settings gauge ≡ false
      go false p = p
      go true p =
          by-lt 15 settings (λ s. absurd (not-0 10 (enrol-10 (board_of rows) settings address gauge s) refl z))
          (λ s. absurd (not-0 27 (enrol-27 (board_of rows) settings address gauge s (in-range z) p) refl z))

  off-board : asked ≡ 0 → length (board_of rows) ≤ place_of address (board_of rows)
  off-board z =
      by-lt 15 settings (λ s. absurd (not-0 10 (enrol-10 (board_of rows) settings address gauge s) refl z))
      (λ s. by-lt (place_of address (board_of rows)) (length (board_of rows)) (λ l. absurd (not-0 18 (enrol-18 (board_of rows) settings address gauge s (in-range z) (fits z) l) refl z)) (λ l. l))

  has-row : asked ≡ 0 → place_free (board_of rows) < length (board_of rows)
  has-row z =
      by-lt 15 settings (λ s. absurd (not-0 10 (enrol-10 (board_of rows) settings address gauge s) refl z))
      (λ s. by-lt (place_free (board_of rows)) (length (board_of rows)) (λ l. l) (λ l. absurd (not-0 19 (enrol-19 (board_of rows) settings address gauge s (in-range z) (fits z) (off-board z) l) refl z)))

  pub enrol-done : Enrolled rows settings address gauge answer after
  enrol-done = go (eqb asked 0) refl
    where
      go : (t : Bool) → eqb asked 0 ≡ t → Enrolled rows settings address gauge answer after
      go true t =
          let z : asked ≡ 0 = eqb-true asked 0 t in
          took (e.answers ∙ z) (in-range z) (off-unknown rows address (off-board z)) (free-first rows (has-row z))
          (e.leaves ∙ ap (λ (b : List Row). b ++ beyond rows) (enrol-sets (board_of rows) settings address gauge z) ∙ set-rows rows (place_free (board_of rows)) (new_row settings address gauge) (has-row z))
      go false t =
          not-enrolled (ap (λ (n : ℕ). eqb n 0) e.answers ∙ t) (unchanged rows after (e.leaves ∙ ap (λ (b : List Row). b ++ beyond rows) (enrol-keeps (board_of rows) settings address gauge t)))

-- Removing or looking with the answer 0: the address is up to 999, and its row is on the board.
module _ (rows : List Row) (address : ℕ) where
  abbrev find : ℕ
  find = find_number (board_of rows) address

  pub found-on : find ≡ 0 → (address ≤ 999) × (place_of address (board_of rows) < length (board_of rows))
  found-on z =
      by-lt 999 address (λ a. absurd (eqb-false 11 0 refl (sym (find-11 (board_of rows) address a) ∙ z)))
      (λ a. by-lt (place_of address (board_of rows)) (length (board_of rows)) (λ l. (a, l)) (λ l. absurd (eqb-false 17 0 refl (sym (find-17 (board_of rows) address a l) ∙ z))))

pub data Removed (rows : List Row) (address answer : ℕ) (after : List Row) : Type 0 where
  not_removed : eqb answer 0 ≡ false → after ≡ rows → Removed rows address answer after
  gave : answer ≡ 0 → address ≤ 999 → IsRowOf rows address (place_of address (board_of rows)) → after ≡ set rows (place_of address (board_of rows)) free_row → Removed rows address answer after

pub remove-done : (rows : List Row) (address answer : ℕ) (after : List Row) → Removes rows address answer after → Removed rows address answer after
remove-done rows address answer after e = go (eqb (find_number (board_of rows) address) 0) refl
  where
    go : (t : Bool) → eqb (find_number (board_of rows) address) 0 ≡ t → Removed rows address answer after
    go true t =
        let z : find_number (board_of rows) address ≡ 0 = eqb-true (find_number (board_of rows) address) 0 t in
        let l = (found-on rows address z).1 in
        gave (e.answers ∙ z) (found-on rows address z).0 (place-row rows address l) (e.leaves ∙ ap (λ (b : List Row). b ++ beyond rows) (remove-sets (board_of rows) address z) ∙ set-rows rows (place_of address (board_of rows)) free_row l)
    go false t = not_removed (ap (λ (n : ℕ). eqb n 0) e.answers ∙ t) (unchanged rows after (e.leaves ∙ ap (λ (b : List Row). b ++ beyond rows) (remove-keeps (board_of rows) address t)))

-- A hearing: nothing has changed, or the row of the address has its fault set, or its reading. The answer names no place but beside 7.
pub data HearDone (rows : List Row) (minute address count : ℕ) (reply : List ℕ) (answer : Heard) (after : List Row) : Type 0 where
  not-heard : eqb answer.number 0 ≡ false → sets_fault answer.number ≡ false → after ≡ rows → HearDone rows minute address count reply answer after
  faulty : sets_fault answer.number ≡ true → address ≤ 999 → IsRowOf rows address (place_of address (board_of rows))
      → after ≡ set rows (place_of address (board_of rows)) (with_fault (heard_at (row_at rows (place_of address (board_of rows))) minute) answer.number answer.place)
      → (eqb answer.number 7 ≡ false → answer.place ≡ 0) → HearDone rows minute address count reply answer after
  good : answer.number ≡ 0 → address ≤ 999 → IsRowOf rows address (place_of address (board_of rows)) → reply_fault (row_at rows (place_of address (board_of rows))).settings address count reply ≡ 0
      → after ≡ set rows (place_of address (board_of rows)) (with_reading (heard_at (row_at rows (place_of address (board_of rows))) minute) (reading_at (row_at rows (place_of address (board_of rows))).settings count (line reply)) minute) → HearDone rows minute address count reply answer after

module _ (rows : List Row) (minute address count : ℕ) (reply : List ℕ) (answer : Heard) (after : List Row) (e : Hears rows minute address count reply answer after) where
  abbrev number : ℕ
  number = hear_number (board_of rows) address count reply

  abbrev named : ℕ
  named = hear_place (board_of rows) address count reply

  abbrev place : ℕ
  place = place_of address (board_of rows)

  number-said : answer.number ≡ number
  number-said = ap (λ (h : Heard). h.number) e.answers

  place-said : answer.place ≡ named
  place-said = ap (λ (h : Heard). h.place) e.answers

  -- a number that reaches the row: none, or a fault that is set
  data Reaches : Type 0 where
    by-none : number ≡ 0 → Reaches
    by-fault : sets_fault number ≡ true → Reaches

  -- such a number is what the row gives, of a row that was found
  abbrev ReadOn : Type 0
  ReadOn = (place < length (board_of rows)) × (number ≡ read_number address count reply (row_of address (board_of rows))) × (address ≤ 999)

  refused-not : (n : ℕ) → eqb n 0 ≡ false → sets_fault n ≡ false → number ≡ n → Reaches → ⊥
  refused-not n z f is (by-none e) = eqb-false n 0 z (sym is ∙ e)
  refused-not n z f is (by-fault e) = let b : ◌≡◌ {A = Bool} true false = sym e ∙ ap (λ (m : ℕ). sets_fault m) is ∙ f in let bad : ◌≡◌ {A = ℕ} 0 1 = cc in omega arith

  read-on : Reaches → ReadOn
  read-on reached =
      by-lt 999 address (λ a. absurd (refused-not 11 refl not-11 (hear-11 (board_of rows) address count reply a) reached))
      (λ a. form a (formed count reply) refl)
    where
      form : address ≤ 999 → (t : Bool) → formed count reply ≡ t → ReadOn
      form a false f = absurd (refused-not 14 refl not-14 (hear-14 (board_of rows) address count reply a f) reached)
      form a true f =
          by-lt place (length (board_of rows)) (λ l. (l, hear-read (board_of rows) address count reply a f l, a))
          (λ l. absurd (refused-not 17 refl not-17 (hear-17 (board_of rows) address count reply a f l) reached))

  same : Reaches → row_of address (board_of rows) ≡ row_at rows place
  same reached = same_row rows place (read-on reached).0

  sets : (row : Row) → place < length (board_of rows) → after ≡ set (board_of rows) place row ++ beyond rows → after ≡ set rows place row
  sets row l is = is ∙ set-rows rows place row l

  pub hear-done : HearDone rows minute address count reply answer after
  hear-done = go (eqb number 0) refl (sets_fault number) refl
    where
      go : (t : Bool) → eqb number 0 ≡ t → (u : Bool) → sets_fault number ≡ u → HearDone rows minute address count reply answer after
      go true t u w =
          let z : number ≡ 0 = eqb-true number 0 t in
          let small = by-none z in
          let l = (read-on small).0 in
          good (number-said ∙ z) (read-on small).2 (place-row rows address l) (ap (λ (r : Row). reply_fault r.settings address count reply) (sym (same small)) ∙ (read-zero address count reply (row_of address (board_of rows)) (sym (read-on small).1 ∙ z)).0)
          (sets _ l (e.leaves ∙ ap (λ (b : List Row). b ++ beyond rows) (hear-sets (board_of rows) minute address count reply z)
          ∙ ap (λ (r : Row). set (board_of rows) place (with_reading (heard_at r minute) (reading_at r.settings count (line reply)) minute) ++ beyond rows) (same small)))
      go false t true w =
          let small = by-fault w in
          let l = (read-on small).0 in
          faulty (ap sets_fault number-said ∙ w) (read-on small).2 (place-row rows address l)
          (sets _ l (e.leaves ∙ ap (λ (b : List Row). b ++ beyond rows) (hear-faults (board_of rows) minute address count reply t w)
          ∙ ap (λ (r : Row). set (board_of rows) place (with_fault (heard_at r minute) number named) ++ beyond rows) (same small)
          ∙ ap (λ (h : Heard). set (board_of rows) place (with_fault (heard_at (row_at rows place) minute) h.number h.place) ++ beyond rows) (sym e.answers)))
          (λ v. place-said ∙ no_place (board_of rows) minute address count reply (ap (λ (n : ℕ). eqb n 7) (sym number-said) ∙ v))
      go false t false w =
          not-heard (ap (λ (n : ℕ). eqb n 0) number-said ∙ t) (ap sets_fault number-said ∙ w) (unchanged rows after (e.leaves ∙ ap (λ (b : List Row). b ++ beyond rows) (hear-keeps (board_of rows) minute address count reply t w)))
