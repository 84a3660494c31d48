-- What stands in a free row is not read. A search on cleared rows stops at the same place, since both tests say the same of a row and of it cleared; the
-- row of an address is in use, so that clearing leaves it as it is; and a row set in cleared rows is a row set, cleared. So it is with rows that are moved by
-- an enrolment and a removal, and with whether rows are so kept: each asks of a row whether it is free, and of one in use alone its address.
use mathlib.Core.Path.{◌≡◌, refl, sym, ◌∙◌, ap}
use mathlib.Core.Bool.{Bool, true, false, not, ◌&&◌, ◌||◌}
use mathlib.Core.List.{List, [], ◌∷◌, ◌++◌, map, append-nil}
use Prim.Native.Nat.{ℕ, zero, suc, ◌<◌, ◌≤◌, min}
use native.Mathlib.Omega.{arith}
use lib.Dec.{eqb, leb, ltb}
use lib.ListN.{length, set, get_or, length-map, length-take, drop_of_length-le, get_or-map, get_or-eq_default}
use lib.Seq.{take_at, take_all}
use borrow.Author.Tests.{ltb-true, ltb-false}
use Rattle.frame.proofs.Both.{both_left}
use Rattle.frame.specs.Line.{line}
use Rattle.frame.specs.Pick.{pick}
use Rattle.frame.specs.Level.{level_of, place_lost}
use Rattle.frame.specs.Reply.{mode_in, reading_at}
use Rattle.board.specs.declared.Row.{Row}
use Rattle.board.specs.Row.{is_free, is_in_use, free_row, new_row, with_reading, with_fault, sets_fault, heard_at}
use Rattle.board.specs.Rows.{board_of, beyond, holds, place_by, place_of, place_free, row_of, on_board, has_free}
use Rattle.board.specs.Order.{all_free, in_address_order_from, in_address_order, if_in_order, pushed, insert_row, closed_up, without_row}
use Rattle.board.specs.Calls.{enrol_number, enrol_rows, remove_rows, hear_number, hear_place, hear_rows, find_number}
use Rattle.board.proofs.Places.{place_at}
use Rattle.promises_order.specs.Calls.{Call, enrol, hear, remove, look_up, poll, refused38}
use Rattle.promises_order.proofs.Boards.{same-find as find-same, same-enrol as enrol-same, same-hear as hear-same}
use Rattle.promises_order.proofs.Order.{pick-length, said, made, now, same-said, made-length}
use Rattle.promises_board.specs.Free.{cleared, AlikeButFree, BoardFree}

-- A row cleared is free where the row is, and holds an address where the row does.
clear-by : (t : Bool) (row : Row) → is_free row ≡ t → is_free (pick t free_row row) ≡ t
clear-by true row e = refl
clear-by false row e = e

clear-free : (row : Row) → is_free (cleared row) ≡ is_free row
clear-free row = clear-by (is_free row) row refl

holds_by : (address : ℕ) (t : Bool) (row : Row) → is_free row ≡ t → holds address (pick t free_row row) ≡ holds address row
holds_by address true row e = sym (ap (λ (b : Bool). not b && eqb row.address address) e)
holds_by address false row e = refl

clear-holds : (address : ℕ) (row : Row) → holds address (cleared row) ≡ holds address row
clear-holds address row = holds_by address (is_free row) row refl

-- A search on cleared rows.
place-clear : (test : Row → Bool) → ((row : Row) → test (cleared row) ≡ test row) → (rows : List Row) → place_by test (map cleared rows) ≡ place_by test rows
unfolding place_by
place-clear test same [] = refl
place-clear test same (row ∷ rows) = ap (λ (t : Bool). pick t zero (suc (place_by test (map cleared rows)))) (same row) ∙ ap (λ (n : ℕ). pick (test row) zero (suc n)) (place-clear test same rows)

-- A row set among cleared rows.
map-set : (rows : List Row) (i : ℕ) (row : Row) → map cleared (set rows i row) ≡ set (map cleared rows) i (cleared row)
map-set [] i row = refl
map-set (old ∷ rows) zero row = refl
map-set (old ∷ rows) (suc i) row = ap (λ (zs : List Row). cleared old ∷ zs) (map-set rows i row)

in-use-same : (t : Bool) (row : Row) → not t ≡ true → pick t free_row row ≡ row
in-use-same true row e = let bad : ◌≡◌ {A = ℕ} 0 1 = cc in absurd (omega arith)
in-use-same false row e = refl

-- Rows that are moved, cleared, are cleared rows moved.
pushed-clear : (row : Row) (rows : List Row) → map cleared (pushed row rows) ≡ pushed (cleared row) (map cleared rows)
unfolding pushed
pushed-clear row [] = refl
pushed-clear row (next ∷ rows) =
    ap (λ (zs : List Row). cleared row ∷ zs)
    (go (is_free next) (pushed-clear next rows) ∙ ap (λ (t : Bool). pick t (map cleared rows) (pushed (cleared next) (map cleared rows))) (sym (clear-free next)))
  where
    go : (t : Bool) → map cleared (pushed next rows) ≡ pushed (cleared next) (map cleared rows) → map cleared (pick t rows (pushed next rows)) ≡ pick t (map cleared rows) (pushed (cleared next) (map cleared rows))
    go true h = refl
    go false h = h

-- the place of an address is before a free row, or before a greater one
greater-by : (n : ℕ) (t : Bool) (row : Row) → is_free row ≡ t → (is_free (pick t free_row row) || ltb n (pick t free_row row).address) ≡ (is_free row || ltb n row.address)
greater-by n true row e = sym (ap (λ (b : Bool). b || ltb n row.address) e)
greater-by n false row e = refl

insert-clear : (row : Row) → cleared row ≡ row → (rows : List Row) → map cleared (insert_row row rows) ≡ insert_row row (map cleared rows)
unfolding insert_row
insert-clear row own [] = refl
insert-clear row own (next ∷ rows) =
    go (is_free next || ltb row.address next.address) (insert-clear row own rows)
    ∙ ap (λ (t : Bool). pick t (pushed row (cleared next ∷ map cleared rows)) (cleared next ∷ insert_row row (map cleared rows))) (sym (greater-by row.address (is_free next) next refl))
  where
    go : (t : Bool) → map cleared (insert_row row rows) ≡ insert_row row (map cleared rows)
        → map cleared (pick t (pushed row (next ∷ rows)) (next ∷ insert_row row rows)) ≡ pick t (pushed row (cleared next ∷ map cleared rows)) (cleared next ∷ insert_row row (map cleared rows))
    go true h = pushed-clear row (next ∷ rows) ∙ ap (λ (r : Row). pushed r (cleared next ∷ map cleared rows)) own
    go false h = ap (λ (zs : List Row). cleared next ∷ zs) h

closed-clear : (rows : List Row) → map cleared (closed_up rows) ≡ closed_up (map cleared rows)
unfolding closed_up
closed-clear [] = refl
closed-clear (row ∷ rows) =
    go (is_free row) (closed-clear rows) ∙ ap (λ (t : Bool). pick t (free_row ∷ cleared row ∷ map cleared rows) (cleared row ∷ closed_up (map cleared rows))) (sym (clear-free row))
  where
    go : (t : Bool) → map cleared (closed_up rows) ≡ closed_up (map cleared rows) → map cleared (pick t (free_row ∷ row ∷ rows) (row ∷ closed_up rows)) ≡ pick t (free_row ∷ cleared row ∷ map cleared rows) (cleared row ∷ closed_up (map cleared rows))
    go true h = refl
    go false h = ap (λ (zs : List Row). cleared row ∷ zs) h

without-clear : (address : ℕ) (rows : List Row) → map cleared (without_row address rows) ≡ without_row address (map cleared rows)
unfolding without_row
without-clear address [] = refl
without-clear address (row ∷ rows) =
    go (holds address row) (without-clear address rows) ∙ ap (λ (t : Bool). pick t (closed_up (map cleared rows)) (cleared row ∷ without_row address (map cleared rows))) (sym (clear-holds address row))
  where
    go : (t : Bool) → map cleared (without_row address rows) ≡ without_row address (map cleared rows)
        → map cleared (pick t (closed_up rows) (row ∷ without_row address rows)) ≡ pick t (closed_up (map cleared rows)) (cleared row ∷ without_row address (map cleared rows))
    go true h = closed-clear rows
    go false h = ap (λ (zs : List Row). cleared row ∷ zs) h

-- Whether rows are so kept.
all-clear : (rows : List Row) → all_free (map cleared rows) ≡ all_free rows
unfolding all_free
all-clear [] = refl
all-clear (row ∷ rows) = ap (λ (t : Bool). t && all_free (map cleared rows)) (clear-free row) ∙ ap (λ (t : Bool). is_free row && t) (all-clear rows)

kept-clear : (least : ℕ) (rows : List Row) → in_address_order_from least (map cleared rows) ≡ in_address_order_from least rows
unfolding in_address_order_from
kept-clear least [] = refl
kept-clear least (row ∷ rows) = go (is_free row) refl (kept-clear (suc row.address) rows)
  where
    go : (t : Bool) → is_free row ≡ t → in_address_order_from (suc row.address) (map cleared rows) ≡ in_address_order_from (suc row.address) rows
        → pick (is_free (pick t free_row row)) (all_free (map cleared rows)) (leb least (pick t free_row row).address && in_address_order_from (suc (pick t free_row row).address) (map cleared rows))
        ≡ pick (is_free row) (all_free rows) (leb least row.address && in_address_order_from (suc row.address) rows)
    go true e h = all-clear rows ∙ sym (ap (λ (t : Bool). pick t (all_free rows) (leb least row.address && in_address_order_from (suc row.address) rows)) e)
    go false e h =
        ap (λ (t : Bool). pick t (all_free (map cleared rows)) (leb least row.address && in_address_order_from (suc row.address) (map cleared rows))) e
        ∙ ap (λ (t : Bool). leb least row.address && t) h
        ∙ sym (ap (λ (t : Bool). pick t (all_free rows) (leb least row.address && in_address_order_from (suc row.address) rows)) e)

-- Two boards alike.
module _ (x y : List Row) (alike : map cleared x ≡ map cleared y) where
  same_length : length x ≡ length y
  same_length = sym (length-map x cleared) ∙ ap length alike ∙ length-map y cleared

  same-free : place_free x ≡ place_free y
  same-free = sym (place-clear is_free clear-free x) ∙ ap (place_by is_free) alike ∙ place-clear is_free clear-free y

  same-room : has_free x ≡ has_free y
  same-room = ap (λ (k : ℕ). ltb k (length x)) same-free ∙ ap (ltb (place_free y)) same_length

  same_kept : in_address_order x ≡ in_address_order y
  same_kept = sym (kept-clear 0 x) ∙ ap in_address_order alike ∙ kept-clear 0 y

  -- what each call answers and leaves, with 38 asked first
  same_answer : {A : Type 0} (p q r : A) → p ≡ q → if_in_order x p r ≡ if_in_order y q r
  same_answer p q r e = ap (λ (t : Bool). pick t p r) same_kept ∙ ap (λ z. pick (in_address_order y) z r) e

  ordered-alike : (p q : List Row) → map cleared p ≡ map cleared q → map cleared (if_in_order x p x) ≡ map cleared (if_in_order y q y)
  ordered-alike p q e = go (in_address_order x) ∙ ap (λ (t : Bool). map cleared (pick t q y)) same_kept
    where
      go : (t : Bool) → map cleared (pick t p x) ≡ map cleared (pick t q y)
      go true = e
      go false = alike

  module _ (address : ℕ) where
    same_place : place_of address x ≡ place_of address y
    same_place = sym (place-clear (holds address) (clear-holds address) x) ∙ ap (place_by (holds address)) alike ∙ place-clear (holds address) (clear-holds address) y

    same-cleared : cleared (row_of address x) ≡ cleared (row_of address y)
    same-cleared =
        sym (get_or-map cleared x (place_of address x) free_row) ∙ ap (λ (zs : List Row). get_or zs (place_of address x) free_row) alike ∙ ap (λ (k : ℕ). get_or (map cleared y) k free_row) same_place
        ∙ get_or-map cleared y (place_of address y) free_row

    as-it-is : (zs : List Row) → place_of address zs < length zs → cleared (row_of address zs) ≡ row_of address zs
    as-it-is zs l = in-use-same (is_free (row_of address zs)) (row_of address zs) (both_left (is_in_use (row_of address zs)) (eqb (row_of address zs).address address) (place_at (holds address) zs l))

    same_row : row_of address x ≡ row_of address y
    same_row = go (ltb (place_of address x) (length x)) refl
      where
        go : (t : Bool) → ltb (place_of address x) (length x) ≡ t → row_of address x ≡ row_of address y
        go true e =
            let l : place_of address x < length x = ltb-true (place_of address x) (length x) e in
            sym (as-it-is x l) ∙ same-cleared ∙ as-it-is y (omega (arith, same_place, same_length))
        go false e =
            let l : length x ≤ place_of address x = ltb-false (place_of address x) (length x) e in
            let m : length y ≤ place_of address y = omega (arith, same_place, same_length) in
            get_or-eq_default x free_row l ∙ sym (get_or-eq_default y free_row m)

    same-on : on_board address x ≡ on_board address y
    same-on = ap (λ (k : ℕ). ltb k (length x)) same_place ∙ ap (λ (n : ℕ). ltb (place_of address y) n) same_length

    same-find : find_number x address ≡ find_number y address
    same-find = find-same x y address same-on

    -- the rows at a place set to the same row
    set-alike : (i j : ℕ) (row : Row) → i ≡ j → map cleared (set x i row) ≡ map cleared (set y j row)
    set-alike i j row e = map-set x i row ∙ ap (λ (zs : List Row). set zs i (cleared row)) alike ∙ ap (λ (k : ℕ). set (map cleared y) k (cleared row)) e ∙ sym (map-set y j row)

    pick-alike : (t : Bool) (p q : List Row) → map cleared p ≡ map cleared q → map cleared (pick t p x) ≡ map cleared (pick t q y)
    pick-alike true p q e = e
    pick-alike false p q e = alike

    remove-alike : map cleared (remove_rows x address) ≡ map cleared (remove_rows y address)
    unfolding remove_rows
    remove-alike =
        pick-alike (eqb (find_number x address) 0) (without_row address x) (without_row address y) (without-clear address x ∙ ap (without_row address) alike ∙ sym (without-clear address y))
        ∙ ap (λ (n : ℕ). map cleared (pick (eqb n 0) (without_row address y) y)) same-find

    module _ (settings gauge : ℕ) where
      same-enrol : enrol_number x settings address gauge ≡ enrol_number y settings address gauge
      same-enrol = enrol-same x y address same-on settings gauge same-room

      enrol-alike : map cleared (enrol_rows x settings address gauge) ≡ map cleared (enrol_rows y settings address gauge)
      unfolding enrol_rows
      enrol-alike =
          pick-alike (eqb (enrol_number x settings address gauge) 0) (insert_row (new_row settings address gauge) x) (insert_row (new_row settings address gauge) y)
          (insert-clear (new_row settings address gauge) refl x ∙ ap (insert_row (new_row settings address gauge)) alike ∙ sym (insert-clear (new_row settings address gauge) refl y))
          ∙ ap (λ (n : ℕ). map cleared (pick (eqb n 0) (insert_row (new_row settings address gauge) y) y)) same-enrol

    module _ (minute count : ℕ) (reply : List ℕ) where
      same-hear : hear_number x address count reply ≡ hear_number y address count reply
      same-hear = hear-same x y address same-on same_row count reply

      -- the place that a number names
      abbrev named : Row → ℕ → ℕ
      named row n = pick (eqb n 7) (place_lost (level_of (mode_in row.settings) (line reply))) 0

      -- what a hearing leaves, by its number
      abbrev left : List Row → Row → ℕ → ℕ → List Row
      left zs row i n = pick (eqb n 0) (set zs i (with_reading (heard_at row minute) (reading_at row.settings count (line reply)) minute)) (pick (sets_fault n) (set zs i (with_fault (heard_at row minute) n (named row n))) zs)

      left-alike : (row : Row) (i j n : ℕ) → i ≡ j → map cleared (left x row i n) ≡ map cleared (left y row j n)
      left-alike row i j n e = go (eqb n 0) (sets_fault n)
        where
          go : (s t : Bool) → map cleared (pick s (set x i (with_reading (heard_at row minute) (reading_at row.settings count (line reply)) minute)) (pick t (set x i (with_fault (heard_at row minute) n (named row n))) x)) ≡ map cleared (pick s (set y j (with_reading (heard_at row minute) (reading_at row.settings count (line reply)) minute)) (pick t (set y j (with_fault (heard_at row minute) n (named row n))) y))
          go true t = set-alike i j (with_reading (heard_at row minute) (reading_at row.settings count (line reply)) minute) e
          go false true = set-alike i j (with_fault (heard_at row minute) n (named row n)) e
          go false false = alike

      hear-alike : map cleared (hear_rows x minute address count reply) ≡ map cleared (hear_rows y minute address count reply)
      unfolding hear_rows hear_place
      hear-alike =
          left-alike (row_of address x) (place_of address x) (place_of address y) (hear_number x address count reply) same_place
          ∙ ap (λ (r : Row). map cleared (left y r (place_of address y) (hear_number x address count reply))) same_row
          ∙ ap (λ (n : ℕ). map cleared (left y (row_of address y) (place_of address y) n)) same-hear

  made_alike : (c : Call) → map cleared (made x c) ≡ map cleared (made y c)
  made_alike (enrol settings address gauge) = enrol-alike address settings gauge
  made_alike (hear minute address count reply) = hear-alike address minute count reply
  made_alike (remove address) = remove-alike address
  made_alike (look_up address) = alike
  made_alike (poll address raise reset out) = alike

-- The board after a call is what the call left of the board.
pub board-of : (rows now : List Row) → length now ≡ length (board_of rows) → board_of (now ++ beyond rows) ≡ now
board-of rows now e = go (ltb (length rows) 30) refl
  where
    few : length now ≡ min 30 (length rows)
    few = e ∙ length-take 30 rows

    go : (t : Bool) → ltb (length rows) 30 ≡ t → board_of (now ++ beyond rows) ≡ now
    go true s =
        let l : length rows < 30 = ltb-true (length rows) 30 s in
        let m : length rows ≤ 30 = omega arith in
        ap (λ (zs : List Row). board_of (now ++ zs)) (drop_of_length-le rows m) ∙ ap board_of (append-nil now) ∙ take_all 30 now (omega (arith, few))
    go false s =
        let l : 30 ≤ length rows = ltb-false (length rows) 30 s in
        take_at now (beyond rows) 30 (omega (arith, few))

-- The boards after two calls are alike where what the calls made of the boards is, and is as long.
after-alike : (Made : List Row → List Row) → ((board : List Row) → length (Made board) ≡ length board) → (rows others after later : List Row) → after ≡ Made (board_of rows) ++ beyond rows → later ≡ Made (board_of others) ++ beyond others → map cleared (Made (board_of rows)) ≡ map cleared (Made (board_of others)) → AlikeButFree after later
after-alike Made long rows others after later e f same =
    ap (λ (zs : List Row). map cleared (board_of zs)) e ∙ ap (map cleared) (board-of rows (Made (board_of rows)) (long (board_of rows))) ∙ same ∙ sym (ap (map cleared) (board-of others (Made (board_of others)) (long (board_of others))))
    ∙ sym (ap (λ (zs : List Row). map cleared (board_of zs)) f)

-- as many rows, with the order asked first
ordered-length : (Made : List Row → List Row) → ((board : List Row) → length (Made board) ≡ length board) → (board : List Row) → length (if_in_order board (Made board) board) ≡ length board
ordered-length Made long board = pick-length (in_address_order board) (Made board) board (long board)

pub board-free : BoardFree
board-free =
    record {
      any_call = λ rows others after later c a b same e f.
          let p = now rows c a after e in
          let q = now others c b later f in (
            p.answers
                ∙ same_answer (board_of rows) (board_of others) same (said (board_of rows) c) (said (board_of others) c) (refused38 c)
                (same-said (board_of rows) (board_of others) (same-on (board_of rows) (board_of others) same) (same_row (board_of rows) (board_of others) same) (same-room (board_of rows) (board_of others) same) c)
                ∙ sym q.answers,
            after-alike (λ board. if_in_order board (made board c) board) (ordered-length (λ board. made board c) (λ board. made-length board c)) rows others after later p.leaves q.leaves
                (ordered-alike (board_of rows) (board_of others) same (made (board_of rows) c) (made (board_of others) c) (made_alike (board_of rows) (board_of others) same c)),
          );
    }
