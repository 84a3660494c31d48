-- What the request leaves as it was: of a row that is not checked the last test does not hold, so that the number is the frame's, which is never 26. And
-- how 26 acts: both hearings set the row of the address, to rows that differ in the number alone.
use mathlib.Core.Path.{◌≡◌, refl, sym, ◌∙◌, ap, subst}
use mathlib.Core.Bool.{Bool, true, false, not, ◌&&◌, ◌||◌}
use mathlib.Core.List.{List, ◌++◌}
use Prim.Native.Nat.{ℕ, ◌%◌, ◌≤◌}
use native.Mathlib.Omega.{arith}
use lib.Dec.{eqb, leb, ltb}
use lib.ListN.{length, set}
use borrow.Author.Tests.{eqb-true, ne_eqb, ltb-true}
use Rattle.frame.specs.declared.Temperature.{Temperature}
use Rattle.frame.specs.declared.Temperature.TheVariants.{Degrees, Above, Below, Absent}
use Rattle.frame.specs.Faults.{first_of}
use Rattle.frame.specs.Level.{level_of, place_lost}
use Rattle.frame.specs.Line.{line, formed}
use Rattle.frame.specs.Pick.{pick}
use Rattle.frame.specs.Reply.{is1800, mode_in, reply_fault, reading_at}
use Rattle.board.specs.declared.Heard.{Heard}
use Rattle.board.specs.declared.Row.{Row}
use Rattle.board.specs.Gauge.{Profile, no_profile, copper, platinum, profile_of, outside}
use Rattle.board.specs.Row.{heard_at, with_reading, with_fault, sets_fault}
use Rattle.board.specs.Rows.{board_of, beyond, place_of, on_board, row_of}
use Rattle.board.specs.Calls.{heard_as, outside_at, hear_number, hear_place, hear_rows}
use Rattle.promises_order.specs.OldBoard.{OldHears as Hears}
use Rattle.board.proofs.Faults.{sets-26, sets-9}
use Rattle.promises_order.specs.Calls.{hear}
use Rattle.promises_order.proofs.Order.{board-order}
use Rattle.promises_order.specs.Places.{row_at}
use Rattle.promises_board.specs.Calls.{IsRowOf, OnlyRow}
use Rattle.promises_board.specs.Unprofiled.{number_before, place_before, rows_before, HeardBefore, Unchecked, no-profile, of-1800, no_temperature, with_number, BoardProfiles}
use Rattle.promises_board.proofs.Tests.{differs, and-false}
use Rattle.promises_board.proofs.Places.{place-row, row-place, same_row}
use Rattle.promises_board.proofs.After.{at-most-14}
use Rattle.promises_board.proofs.Done.{set-only, HearDone, not-heard, faulty, good, hear-done}
use Rattle.promises_board.proofs.Now.{hear-so}

none-outside : (t : Temperature) → outside no_profile t ≡ false
none-outside (Degrees d) = refl
none-outside Above = refl
none-outside Below = refl
none-outside Absent = refl

-- a row that is not checked
not-outside : (row : Row) (count : ℕ) (reply : List ℕ) → Unchecked row count → outside_at row count reply ≡ false
not-outside row count reply (no-profile a b) =
    let none : profile_of row.gauge ≡ no_profile
    = ap (λ (t : Bool). pick t copper (pick (eqb (row.gauge % 4) 2) platinum no_profile)) (ne_eqb (row.gauge % 4) 1 a) ∙ ap (λ (t : Bool). pick t platinum no_profile) (ne_eqb (row.gauge % 4) 2 b) in
    let t : Temperature = (reading_at row.settings count (line reply)).temperature in
    ap (λ (p : Profile). not (is1800 row.settings) && outside p t) none ∙ ap (λ (b : Bool). not (is1800 row.settings) && b) (none-outside t) ∙ and-false (not (is1800 row.settings))
not-outside row count reply (of-1800 e) = ap (λ (b : Bool). not b && outside (profile_of row.gauge) (reading_at row.settings count (line reply)).temperature) e
not-outside row count reply (no_temperature e) = ap (λ (k : ℕ). outside_at row k reply) e ∙ and-false (not (is1800 row.settings))

-- the number of a fault, or 0
settled : (f : ℕ) → pick (not (eqb f 0)) f 0 ≡ f
settled f = go (eqb f 0) refl
  where
    go : (t : Bool) → eqb f 0 ≡ t → pick (not t) f 0 ≡ f
    go true e = sym (eqb-true f 0 e)
    go false e = refl

module _ (rows : List Row) (minute address count : ℕ) (reply : List ℕ) (unchecked : (i : ℕ) → IsRowOf rows address i → Unchecked (row_at rows i) count) where
  abbrev board : List Row
  board = board_of rows

  abbrev row : Row
  row = row_of address board

  abbrev number : ℕ
  number = number_before board minute address count reply

  abbrev fault : ℕ
  fault = reply_fault row.settings address count reply

  on_row : on_board address board ≡ true → outside_at row count reply ≡ false
  on_row e =
      let l = ltb-true (place_of address board) (length board) e in
      ap (λ (r : Row). outside_at r count reply) (same_row rows (place_of address board) l)
      ∙ not-outside (row_at rows (place_of address board)) count reply (unchecked (place_of address board) (place-row rows address l))

  same_number : hear_number board address count reply ≡ number
  unfolding hear_number first_of
  same_number = go (on_board address board) refl
    where
      -- the number from the third test on
      last : Bool → ℕ → ℕ
      last on given = pick (ltb 999 address) 11 (pick (not (formed count reply)) 14 (pick (not on) 17 given))

      go : (t : Bool) → on_board address board ≡ t → last t (pick (not (eqb fault 0)) fault (pick (outside_at row count reply) 26 0)) ≡ last t fault
      go true e = ap (λ (o : Bool). last true (pick (not (eqb fault 0)) fault (pick o 26 0))) (on_row e) ∙ ap (last true) (settled fault)
      go false e = refl

  -- no number before the request was 26
  small : number ≤ 17
  unfolding first_of
  small = go (ltb 999 address) (not (formed count reply)) (not (on_board address board))
    where
      go : (a f u : Bool) → pick a 11 (pick f 14 (pick u 17 fault)) ≤ 17
      go true f u = omega arith
      go false true u = omega arith
      go false false true = omega arith
      go false false false = omega (arith, at-most-14 row.settings address count reply)

  same-sets : sets_fault number ≡ (leb 1 number && leb number 9)
  unfolding sets_fault
  same-sets = ap (λ (t : Bool). t || (leb 1 number && leb number 9)) (ne_eqb number 26 (λ e. omega (arith, small, e)))

  same_place : hear_place board address count reply ≡ place_before board minute address count reply
  unfolding hear_place
  same_place = ap (λ (n : ℕ). pick (eqb n 7) (place_lost (level_of (mode_in row.settings) (line reply))) 0) same_number

  -- what is left, by the number, the place and whether a fault is set
  abbrev left : ℕ → ℕ → Bool → List Row
  left n p t =
      pick (eqb n 0) (set board (place_of address board) (with_reading (heard_at row minute) (reading_at row.settings count (line reply)) minute))
      (pick t (set board (place_of address board) (with_fault (heard_at row minute) n p)) board)

  same_rows : hear_rows board minute address count reply ≡ rows_before board minute address count reply
  unfolding hear_rows
  same_rows =
      ap (λ (n : ℕ). left n (hear_place board address count reply) (sets_fault n)) same_number
      ∙ ap (λ (p : ℕ). left number p (sets_fault number)) same_place
      ∙ ap (left number (place_before board minute address count reply)) same-sets

  as_before : (answer : Heard) (after : List Row) → Hears rows minute address count reply answer after → HeardBefore rows minute address count reply answer after
  as_before answer after e =
      record {
        answers = e.answers
            ∙ ap (λ (n : ℕ). heard_as n (hear_place board address count reply)) same_number
            ∙ ap (heard_as number) same_place;
        leaves = e.leaves ∙ ap (λ (zs : List Row). zs ++ beyond rows) same_rows;
      }

-- A hearing that answered a number that sets the fault, and names no place: its row is set, and no other.
module _ (rows after : List Row) (minute address count number p : ℕ) (reply : List ℕ) (sets : sets_fault number ≡ true) (some : number ≡ 0 → ⊥) (v : eqb number 7 ≡ false) where
  by-done : HearDone rows minute address count reply (heard_as number p) after → (i : ℕ) → IsRowOf rows address i → OnlyRow rows i (with_fault (heard_at (row_at rows i) minute) number 0) after
  by-done (not-heard z l e) i w = absurd (differs sets l)
  by-done (good z a w f e) i u = absurd (some z)
  by-done (faulty f a w e n) i u =
      subst (λ (k : ℕ). OnlyRow rows k (with_fault (heard_at (row_at rows k) minute) number 0) after) (row-place rows address i u)
      (set-only rows after (place_of address (board_of rows)) (with_fault (heard_at (row_at rows (place_of address (board_of rows))) minute) number 0) w.place
      (e ∙ ap (λ (k : ℕ). set rows (place_of address (board_of rows)) (with_fault (heard_at (row_at rows (place_of address (board_of rows))) minute) number k)) (n v)))

  pub set-by : Hears rows minute address count reply (heard_as number p) after → (i : ℕ) → IsRowOf rows address i → OnlyRow rows i (with_fault (heard_at (row_at rows i) minute) number 0) after
  set-by e = by-done (hear-done rows minute address count reply (heard_as number p) after e)

-- Of today's calls: of rows so kept a hearing is what it was, and one that answered another number than 38 was of such rows.
pub board-profiles : BoardProfiles
board-profiles =
    record {
      unprofiled = λ rows after minute address count reply answer so unchecked e.
          as_before rows minute address count reply unchecked answer after (board-order.very_outcome rows (hear minute address count reply) answer after so tt e);
      acts_as_9 = λ rows after later minute address count bits p q reply other e f i w.
          let so = hear-so rows minute address count 26 p reply after (λ z. omega (arith, z)) e in
          let x = set-by rows after minute address count 26 p reply sets-26 (λ z. omega (arith, z)) refl (board-order.very_outcome rows (hear minute address count reply) (heard_as 26 p) after so tt e) i w in
          let y = set-by rows later minute address bits 9 q other sets-9 (λ z. omega (arith, z)) refl (board-order.very_outcome rows (hear minute address bits other) (heard_as 9 q) later so tt f) i w in
          (ap (λ (r : Row). r.fault) x.own, y.own ∙ sym (ap (with_number 9) x.own), λ j ne. y.others j ne ∙ sym (x.others j ne), y.as_many ∙ sym x.as_many);
    }
