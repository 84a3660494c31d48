-- The board in address order. A run is taken apart at its latest call; the two boards are alike before it (`SameCalls`), so what the calls ask is the same,
-- 38 is not asked of the new one, and the boards are alike after it. Of any rows, so kept or not, the record of each call is opened at that test.
use mathlib.Core.Path.{◌≡◌, refl, sym, ◌∙◌, ap, subst}
use mathlib.Core.Bool.{Bool, true, false, not}
use mathlib.Core.List.{List, [], ◌∷◌, ◌++◌, append-nil}
use Prim.Native.Nat.{ℕ, ◌+◌, ◌-◌, ◌<◌, ◌≤◌, min}
use native.Mathlib.Omega.{arith}
use lib.Dec.{eqb, ltb}
use lib.ListN.{length, get_or, set, length-append, length-take, length-set, drop_of_length-le, take-append-drop}
use lib.Seq.{take_at, take_all, drop_at, get_or-drop}
use borrow.Author.Tests.{ltb-true, ltb-false, not-true}
use Rattle.frame.specs.Faults.{Test, ◌gives◌, first_of}
use Rattle.frame.specs.Line.{line, formed}
use Rattle.frame.specs.Pick.{pick}
use Rattle.frame.specs.Reply.{reply_tests, reply_fault, reading_at}
use Rattle.board.specs.declared.Row.{Row}
use Rattle.board.specs.Gauge.{profile_misplaced, unmarked, at_once}
use Rattle.board.specs.Row.{is_free, is_in_use, free_row, new_row, with_reading, with_fault, sets_fault, heard_at}
use Rattle.board.specs.Rows.{board_of, beyond, place_of, row_of, on_board, has_free}
use Rattle.board.specs.Order.{in_address_order, if_in_order, insert_row, without_row}
use Rattle.board.specs.Calls.{Enrols, Removes, heard_as, refused_look, row_told, enrol_number, enrol_rows, fault_by, outside_at, hear_number, hear_place, hear_rows, find_number, remove_rows, looked_at, row_poll_number, row_poll_bytes}
use Rattle.board.proofs.Order.{neither}
use Rattle.promises_order.specs.Places.{row_at, OnBoard, Empty}
use Rattle.promises_order.specs.OldBoard.{old_enrol_rows, old_remove_rows}
use Rattle.promises_order.specs.Calls.{today, as_it_was, Call, enrol, hear, remove, look_up, poll, Answer, Does, number_answered, refused38, MovesNone}
use Rattle.promises_order.specs.Order.{SoKept, SameCalls, begin, call, AnsweredSame, Never38, Past, Front, IsPlaceFor, Inserted, Closed, BoardOrder}
use Rattle.promises_order.proofs.Count.{used}
use Rattle.promises_order.proofs.Held.{length-insert, length_without}
use Rattle.promises_order.proofs.SoKept.{so-kept, kept-so, not-kept}
use Rattle.promises_order.proofs.Boards.{same-find, same-enrol, same-looked, same-hear, same-named, same-poll, same_bytes}
use Rattle.promises_order.proofs.Moves.{inserted, closed-up, a-front, a-place}
use Rattle.promises_order.proofs.SameCalls.{Alike, on_same, row_same, free-same, enrol-zero, enrol-alike, remove-alike, hear-alike}

-- The rows after a call, from what it makes of the board.
module _ (rows after now : List Row) (long : length now ≡ length (board_of rows)) (is : after ≡ now ++ beyond rows) where
  few : length now ≡ min 30 (length rows)
  few = long ∙ length-take 30 rows

  board-after : board_of after ≡ now
  board-after = ap board_of is ∙ go (ltb (length rows) 30) refl
    where
      go : (t : Bool) → ltb (length rows) 30 ≡ t → board_of (now ++ beyond rows) ≡ now
      go true s =
          let l : length rows < 30 = ltb-true (length rows) 30 s in
          let m : length rows ≤ 30 = omega arith in
          ap (λ (zs : List Row). board_of (now ++ zs)) (drop_of_length-le rows m) ∙ ap board_of (append-nil now) ∙ take_all 30 now (omega (arith, few))
      go false s = let l : 30 ≤ length rows = ltb-false (length rows) 30 s in take_at now (beyond rows) 30 (omega (arith, few))

  pub beyond-after : beyond after ≡ beyond rows
  beyond-after = ap beyond is ∙ go (ltb (length rows) 30) refl
    where
      go : (t : Bool) → ltb (length rows) 30 ≡ t → beyond (now ++ beyond rows) ≡ beyond rows
      go true s =
          let l : length rows < 30 = ltb-true (length rows) 30 s in
          let m : length rows ≤ 30 = omega arith in
          let w : length now ≤ 30 = omega (arith, few) in
          ap (λ (zs : List Row). beyond (now ++ zs)) (drop_of_length-le rows m) ∙ ap beyond (append-nil now) ∙ drop_of_length-le now w ∙ sym (drop_of_length-le rows m)
      go false s = let l : 30 ≤ length rows = ltb-false (length rows) 30 s in drop_at now (beyond rows) 30 (omega (arith, few))

  many-after : length after ≡ length rows
  many-after =
      let e = ap length is ∙ length-append now (beyond rows) in
      let f = ap length (sym (take-append-drop 30 rows)) ∙ length-append (board_of rows) (beyond rows) in
      omega (arith, long)

pub pick-length : (t : Bool) (p q : List Row) → length p ≡ length q → length (pick t p q) ≡ length q
pick-length true p q e = e
pick-length false p q e = refl

module _ (board : List Row) where
  pub old-enrol-length : (settings address gauge : ℕ) → length (old_enrol_rows board settings address gauge) ≡ length board
  unfolding old_enrol_rows
  old-enrol-length settings address gauge = pick-length (eqb (enrol_number board settings address gauge) 0) _ board (length-set board _ (new_row settings address gauge))

  pub old-remove-length : (address : ℕ) → length (old_remove_rows board address) ≡ length board
  unfolding old_remove_rows
  old-remove-length address = pick-length (eqb (find_number board address) 0) _ board (length-set board (place_of address board) free_row)

  pub enrol-length : (settings address gauge : ℕ) → length (enrol_rows board settings address gauge) ≡ length board
  unfolding enrol_rows
  enrol-length settings address gauge = pick-length (eqb (enrol_number board settings address gauge) 0) (insert_row (new_row settings address gauge) board) board (length-insert (new_row settings address gauge) board)

  pub remove-length : (address : ℕ) → length (remove_rows board address) ≡ length board
  unfolding remove_rows
  remove-length address = pick-length (eqb (find_number board address) 0) (without_row address board) board (length_without address board)

  pub hear-length : (minute address count : ℕ) (reply : List ℕ) → length (hear_rows board minute address count reply) ≡ length board
  unfolding hear_rows
  hear-length minute address count reply = go (eqb (hear_number board address count reply) 0) (sets_fault (hear_number board address count reply))
    where
      go : (s t : Bool) → length (pick s (set board (place_of address board) (with_reading (heard_at (row_of address board) minute) (reading_at (row_of address board).settings count (line reply)) minute)) (pick t (set board (place_of address board) (with_fault (heard_at (row_of address board) minute) (hear_number board address count reply) (hear_place board address count reply))) board)) ≡ length board
      go true t = length-set board _ _
      go false true = length-set board _ _
      go false false = refl

-- A record opened at the test of the order.
pub in_order : {A : Type 0} (board : List Row) (x y : A) → in_address_order board ≡ true → if_in_order board x y ≡ x
in_order board x y k = ap (λ (t : Bool). pick t x y) k

pub out_of_order : {A : Type 0} (board : List Row) (x y : A) → in_address_order board ≡ false → if_in_order board x y ≡ y
out_of_order board x y k = ap (λ (t : Bool). pick t x y) k

-- Where each number of a list of tests is at most m, the first that applies is: no other number is 38.
abbrev pub AllSmall : ℕ → List Test → Type 0
AllSmall m [] = Unit {0}
AllSmall m (t ∷ ts) = (t.number ≤ m) × AllSmall m ts

pub first_small : (m : ℕ) (ts : List Test) → AllSmall m ts → first_of ts ≤ m
unfolding first_of
first_small m [] h = omega arith
first_small m (t ∷ ts) h = by t.applies (first_small m ts h.1)
  where
    by : (b : Bool) → first_of ts ≤ m → pick b t.number (first_of ts) ≤ m
    by true k = h.0
    by false k = k

module _ (board : List Row) (address : ℕ) where
  enrol-small : (settings gauge : ℕ) → enrol_number board settings address gauge ≤ 37
  unfolding enrol_number
  enrol-small settings gauge =
      first_small 37 (ltb 15 settings gives 10 ∷ ltb 999 address gives 11 ∷ profile_misplaced settings gauge gives 27 ∷ on_board address board gives 18 ∷ not (has_free board) gives 19 ∷ [])
      (omega arith, (omega arith, (omega arith, (omega arith, (omega arith, tt)))))

  find-small : find_number board address ≤ 37
  unfolding find_number
  find-small = first_small 37 (ltb 999 address gives 11 ∷ not (on_board address board) gives 17 ∷ []) (omega arith, (omega arith, tt))

  fault-small : (settings count : ℕ) (reply : List ℕ) → reply_fault settings address count reply ≤ 37
  unfolding reply_fault
  fault-small settings count reply =
      first_small 37 (reply_tests settings address count reply)
      (omega arith, (omega arith, (omega arith, (omega arith, (omega arith, (omega arith, (omega arith, (omega arith, (omega arith, (omega arith, (omega arith, (omega arith, tt))))))))))))

  hear-small : (count : ℕ) (reply : List ℕ) → hear_number board address count reply ≤ 37
  unfolding hear_number
  hear-small count reply =
      first_small 37
      (ltb 999 address gives 11 ∷ not (formed count reply) gives 14 ∷ not (on_board address board) gives 17 ∷ not (eqb (fault_by (row_of address board) address count reply) 0) gives fault_by (row_of address board) address count reply ∷ outside_at (row_of address board) count reply gives 26 ∷ [])
      (omega arith, (omega arith, (omega arith, (fault-small (row_of address board).settings count reply, (omega arith, tt)))))

  look-small : (looked_at board address).number ≤ 37
  unfolding looked_at
  look-small = go (find_number board address) (eqb (find_number board address) 0) find-small
    where
      go : (n : ℕ) (t : Bool) → n ≤ 37 → (pick t (row_told (row_of address board)) (refused_look n)).number ≤ 37
      go n true l = omega arith
      go n false l = l

  poll-small : (raise reset : ℕ) (out : List ℕ) → row_poll_number board address raise reset out ≤ 37
  unfolding row_poll_number
  poll-small raise reset out =
      first_small 37
      (ltb 999 address gives 11 ∷ not (on_board address board) gives 17 ∷ unmarked (row_of address board).gauge raise reset gives 28 ∷ at_once raise reset gives 28 ∷ ltb (length out) 2 gives 15 ∷ [])
      (omega arith, (omega arith, (omega arith, (omega arith, (omega arith, tt)))))

not-38 : (n m : ℕ) → n ≡ m → m ≤ 37 → n ≡ 38 → ⊥
not-38 n m e l z = omega arith

-- What holds of two runs of the same calls.
record Both (start rows others : List Row) : Type 0 where
  alike : Alike (board_of rows) (board_of others)
  past : beyond rows ≡ beyond start
  past_too : beyond others ≡ beyond start
  many : length rows ≡ length start
  many_too : length others ≡ length start

module _ (start rows others after later now then : List Row) (b : Both start rows others) (long : length now ≡ length (board_of rows)) (long-too : length then ≡ length (board_of others)) (e : after ≡ now ++ beyond rows) (f : later ≡ then ++ beyond others) where
  both-after : Alike now then → Both start after later
  both-after w =
      record {
        alike = subst (λ (zs : List Row). Alike zs (board_of later)) (sym (board-after rows after now long e)) (subst (Alike now) (sym (board-after others later then long-too f)) w);
        past = beyond-after rows after now long e ∙ b.past;
        past_too = beyond-after others later then long-too f ∙ b.past_too;
        many = many-after rows after now long e ∙ b.many;
        many_too = many-after others later then long-too f ∙ b.many_too;
      }

-- An empty board is like itself.
empty-kept : (start : List Row) → Empty start → in_address_order (board_of start) ≡ true
empty-kept start empty = kept-so start (record { front = λ i j l on u. absurd (free j on u); rising = λ i j l on u. absurd (free j on u) })
  where
    free : (j : ℕ) → OnBoard start j → is_in_use (row_at start j) ≡ true → ⊥
    free j on u = neither (empty j on) (not-true (is_free (row_at start j)) u)

-- What each call answers of a board so kept, and what it makes of it; the old board answered the same.
abbrev pub said : List Row → (c : Call) → Answer c
said board (enrol settings address gauge) = enrol_number board settings address gauge
said board (hear minute address count reply) = heard_as (hear_number board address count reply) (hear_place board address count reply)
said board (remove address) = find_number board address
said board (look_up address) = looked_at board address
said board (poll address raise reset out) = (row_poll_number board address raise reset out, row_poll_bytes board address raise reset out)

abbrev pub made : List Row → Call → List Row
made board (enrol settings address gauge) = enrol_rows board settings address gauge
made board (hear minute address count reply) = hear_rows board minute address count reply
made board (remove address) = remove_rows board address
made board (look_up address) = board
made board (poll address raise reset out) = board

abbrev made_then : List Row → Call → List Row
made_then board (enrol settings address gauge) = old_enrol_rows board settings address gauge
made_then board (hear minute address count reply) = hear_rows board minute address count reply
made_then board (remove address) = old_remove_rows board address
made_then board (look_up address) = board
made_then board (poll address raise reset out) = board

-- The record of any call, in these words.
pub record Now (rows : List Row) (c : Call) (answer : Answer c) (after : List Row) : Type 0 where
  pub answers : answer ≡ if_in_order (board_of rows) (said (board_of rows) c) (refused38 c)
  pub leaves : after ≡ if_in_order (board_of rows) (made (board_of rows) c) (board_of rows) ++ beyond rows

record Then (rows : List Row) (c : Call) (answer : Answer c) (after : List Row) : Type 0 where
  answers : answer ≡ said (board_of rows) c
  leaves : after ≡ made_then (board_of rows) c ++ beyond rows

abbrev pub pair : ℕ → List ℕ → ℕ × List ℕ
pair m n = (m, n)

pub pair_same : (m x : ℕ) (n u : List ℕ) → m ≡ x → n ≡ u → pair m n ≡ pair x u
pair_same m x n u e f = ap (λ (i : ℕ). pair i n) e ∙ ap (pair x) f

pair-picked : (t : Bool) (m x y : ℕ) (n u v : List ℕ) → m ≡ pick t x y → n ≡ pick t u v → pair m n ≡ pick t (pair x u) (pair y v)
pair-picked true m x y n u v e f = pair_same m x n u e f
pair-picked false m x y n u v e f = pair_same m y n v e f

unmoved : (t : Bool) (rows after : List Row) → after ≡ rows → after ≡ pick t (board_of rows) (board_of rows) ++ beyond rows
unmoved true rows after e = e ∙ sym (take-append-drop 30 rows)
unmoved false rows after e = e ∙ sym (take-append-drop 30 rows)

pub now : (rows : List Row) (c : Call) (answer : Answer c) (after : List Row) → Does today rows c answer after → Now rows c answer after
now rows (enrol settings address gauge) answer after e = record { answers = e.answers; leaves = e.leaves }
now rows (hear minute address count reply) answer after e = record { answers = e.answers; leaves = e.leaves }
now rows (remove address) answer after e = record { answers = e.answers; leaves = e.leaves }
now rows (look_up address) answer after e = record { answers = e.0.answers; leaves = unmoved (in_address_order (board_of rows)) rows after e.1 }
now rows (poll address raise reset out) answer after e =
    record {
      answers = pair-picked (in_address_order (board_of rows)) answer.0 (row_poll_number (board_of rows) address raise reset out) 38 answer.1 (row_poll_bytes (board_of rows) address raise reset out) out e.0.answers e.0.leaves;
      leaves = unmoved (in_address_order (board_of rows)) rows after e.1;
    }

then : (rows : List Row) (c : Call) (answer : Answer c) (after : List Row) → Does as_it_was rows c answer after → Then rows c answer after
then rows (enrol settings address gauge) answer after e = record { answers = e.answers; leaves = e.leaves }
then rows (hear minute address count reply) answer after e = record { answers = e.answers; leaves = e.leaves }
then rows (remove address) answer after e = record { answers = e.answers; leaves = e.leaves }
then rows (look_up address) answer after e = record { answers = e.0.answers; leaves = unmoved true rows after e.1 }
then rows (poll address raise reset out) answer after e =
    record {
      answers = pair_same answer.0 (row_poll_number (board_of rows) address raise reset out) answer.1 (row_poll_bytes (board_of rows) address raise reset out) e.0.answers e.0.leaves;
      leaves = unmoved true rows after e.1;
    }

-- The outcome that every call of the old board has.
abbrev pub left-then : List Row → Call → List Row
left-then rows c = made_then (board_of rows) c ++ beyond rows

pub has-then : (rows : List Row) (c : Call) → Does as_it_was rows c (said (board_of rows) c) (left-then rows c)
has-then rows (enrol settings address gauge) = record { answers = refl; leaves = refl }
has-then rows (hear minute address count reply) = record { answers = refl; leaves = refl }
has-then rows (remove address) = record { answers = refl; leaves = refl }
has-then rows (look_up address) = (record { answers = refl }, take-append-drop 30 rows)
has-then rows (poll address raise reset out) = (record { answers = refl; leaves = refl }, take-append-drop 30 rows)

-- No number of theirs is 38, and the board stays as long.
said-small : (board : List Row) (c : Call) → number_answered c (said board c) ≤ 37
said-small board (enrol settings address gauge) = enrol-small board address settings gauge
said-small board (hear minute address count reply) = hear-small board address count reply
said-small board (remove address) = find-small board address
said-small board (look_up address) = look-small board address
said-small board (poll address raise reset out) = poll-small board address raise reset out

pub made-length : (board : List Row) (c : Call) → length (made board c) ≡ length board
made-length board (enrol settings address gauge) = enrol-length board settings address gauge
made-length board (hear minute address count reply) = hear-length board minute address count reply
made-length board (remove address) = remove-length board address
made-length board (look_up address) = refl
made-length board (poll address raise reset out) = refl

then-length : (board : List Row) (c : Call) → length (made_then board c) ≡ length board
then-length board (enrol settings address gauge) = old-enrol-length board settings address gauge
then-length board (hear minute address count reply) = hear-length board minute address count reply
then-length board (remove address) = old-remove-length board address
then-length board (look_up address) = refl
then-length board (poll address raise reset out) = refl

-- Two boards that say the same of every address, and of a free row, are answered alike.
module _ (x y : List Row) (on : (a : ℕ) → on_board a x ≡ on_board a y) (there : (a : ℕ) → row_of a x ≡ row_of a y) (free : has_free x ≡ has_free y) where
  pub same-said : (c : Call) → said x c ≡ said y c
  same-said (enrol settings address gauge) = same-enrol x y address (on address) settings gauge free
  same-said (hear minute address count reply) =
      ap (λ (i : ℕ). heard_as i (hear_place x address count reply)) (same-hear x y address (on address) (there address) count reply)
      ∙ ap (heard_as (hear_number y address count reply)) (same-named x y address (on address) (there address) count reply)
  same-said (remove address) = same-find x y address (on address)
  same-said (look_up address) = same-looked x y address (on address) (there address)
  same-said (poll address raise reset out) =
      pair_same (row_poll_number x address raise reset out) (row_poll_number y address raise reset out) (row_poll_bytes x address raise reset out) (row_poll_bytes y address raise reset out)
      (same-poll x y address (on address) (there address) raise reset out) (same_bytes x y address (on address) (there address) raise reset out)

-- Boards alike stay so.
module _ (x y : List Row) (w : Alike x y) where
  made_alike : (c : Call) → Alike (made_then x c) (made y c)
  made_alike (enrol settings address gauge) = enrol-alike x y w settings address gauge
  made_alike (hear minute address count reply) = hear-alike x y w minute address count reply
  made_alike (remove address) = remove-alike x y w address
  made_alike (look_up address) = w
  made_alike (poll address raise reset out) = w

-- One call of both.
call-both : (start rows others after later : List Row) → Both start rows others → (c : Call) (m n : Answer c) → Does as_it_was rows c m after → Does today others c n later → (m ≡ n) × (number_answered c n ≡ 38 → ⊥) × Both start after later
call-both start rows others after later b c m n e f =
    let w : Alike (board_of rows) (board_of others) = b.alike in
    let p = then rows c m after e in
    let q = now others c n later f in
    let is : n ≡ said (board_of others) c = q.answers ∙ in_order (board_of others) (said (board_of others) c) (refused38 c) w.order in (
      p.answers ∙ same-said (board_of rows) (board_of others) (on_same (board_of rows) (board_of others) w) (row_same (board_of rows) (board_of others) w) (free-same (board_of rows) (board_of others) w) c ∙ sym is,
      not-38 (number_answered c n) (number_answered c (said (board_of others) c)) (ap (number_answered c) is) (said-small (board_of others) c),
      both-after start rows others after later (made_then (board_of rows) c) (made (board_of others) c) b (then-length (board_of rows) c) (made-length (board_of others) c) p.leaves
          (q.leaves ∙ ap (λ (zs : List Row). zs ++ beyond others) (in_order (board_of others) (made (board_of others) c) (board_of others) w.order)) (made_alike (board_of rows) (board_of others) w c),
    )

run : (start rows others : List Row) → Empty start → (calls : SameCalls start rows others) → AnsweredSame calls × Never38 calls × Both start rows others
run start rows others empty begin = (tt, tt, record { alike = record { held = λ a. refl; many = refl; long = refl; order = empty-kept start empty }; past = refl; past_too = refl; many = refl; many_too = refl })
run start after later empty (call {rows} {others} c a b calls e f) =
    let r = run start rows others empty calls in
    let s = call-both start rows others after later r.2 c a b e f in
    ((s.0, r.0), (s.1, r.1), s.2)

past_by : (start rows : List Row) → beyond rows ≡ beyond start → length rows ≡ length start → Past start rows
past_by start rows e l = record { as_many = l; beyond = λ i h. at i h }
  where
    at : (i : ℕ) → 30 ≤ i → row_at rows i ≡ row_at start i
    at i h =
        let is : 30 + (i - 30) ≡ i = omega arith in
        ap (row_at rows) (sym is) ∙ sym (get_or-drop 30 rows (i - 30) free_row) ∙ ap (λ (zs : List Row). get_or zs (i - 30) free_row) e ∙ get_or-drop 30 start (i - 30) free_row ∙ ap (row_at start) is

-- Rows not so kept: the record is opened the other way, and the board and the rows beyond it are the rows.
module _ (rows : List Row) (none : SoKept rows → ⊥) where
  left_alone : (now after : List Row) → after ≡ if_in_order (board_of rows) now (board_of rows) ++ beyond rows → after ≡ rows
  left_alone now after e = e ∙ ap (λ (zs : List Row). zs ++ beyond rows) (out_of_order (board_of rows) now (board_of rows) (not-kept rows none)) ∙ take-append-drop 30 rows

  refused-by : {A : Type 0} (answer x refused : A) → answer ≡ if_in_order (board_of rows) x refused → answer ≡ refused
  refused-by answer x refused e = e ∙ out_of_order (board_of rows) x refused (not-kept rows none)

-- Rows so kept: the record is opened at what it says of them.
module _ (rows : List Row) (so : SoKept rows) where
  k : in_address_order (board_of rows) ≡ true
  k = kept-so rows so

  answered-by : {A : Type 0} (answer x refused : A) → answer ≡ if_in_order (board_of rows) x refused → answer ≡ x
  answered-by answer x refused e = e ∙ in_order (board_of rows) x refused k

-- What a call makes of a board so kept is so kept: it is like itself, and the calls keep that.
pub self : (board : List Row) → in_address_order board ≡ true → Alike board board
self board k = record { held = λ a. refl; many = refl; long = refl; order = k }

even : (rows : List Row) → SoKept rows → Both rows rows rows
even rows so = record { alike = self (board_of rows) (kept-so rows so); past = refl; past_too = refl; many = refl; many_too = refl }

-- As many rows are in use as on the old board.
pub in-use-then : (rows : List Row) (c : Call) (answer : Answer c) (after : List Row) → SoKept rows → Does today rows c answer after → used (board_of (left-then rows c)) ≡ used (board_of after)
in-use-then rows c answer after so e = (call-both rows rows rows (left-then rows c) after (even rows so) c (said (board_of rows) c) answer (has-then rows c) e).2.alike.many

-- Which rows move: what an answer of 0 says of the board, and what is then left of it.
enrol-moved : (rows : List Row) (settings address gauge : ℕ) (after : List Row) → SoKept rows → Enrols rows settings address gauge 0 after → (n i : ℕ) → Front rows n → IsPlaceFor rows address n i → Inserted rows i n (new_row settings address gauge) after
unfolding enrol_rows
enrol-moved rows settings address gauge after so e n i front p =
    let k = kept-so rows so in
    let z : enrol_number (board_of rows) settings address gauge ≡ 0 = sym (answered-by rows so 0 (enrol_number (board_of rows) settings address gauge) 38 e.answers) in
    let w = enrol-zero (board_of rows) settings address gauge z in
    inserted rows n front after (new_row settings address gauge) i k p w.1 w.0
    (e.leaves
    ∙ ap (λ (zs : List Row). zs ++ beyond rows) (in_order (board_of rows) (pick (eqb (enrol_number (board_of rows) settings address gauge) 0) (insert_row (new_row settings address gauge) (board_of rows)) (board_of rows)) (board_of rows) k
    ∙ ap (λ (m : ℕ). pick (eqb m 0) (insert_row (new_row settings address gauge) (board_of rows)) (board_of rows)) z))

remove-moved : (rows : List Row) (address : ℕ) (after : List Row) → SoKept rows → Removes rows address 0 after → (n i : ℕ) → Front rows n → i < n → (row_at rows i).address ≡ address → Closed rows i n after
unfolding remove_rows
remove-moved rows address after so e n i front l own =
    let k = kept-so rows so in
    let z : find_number (board_of rows) address ≡ 0 = sym (answered-by rows so 0 (find_number (board_of rows) address) 38 e.answers) in
    closed-up rows n front after address i k so l own
    (e.leaves
    ∙ ap (λ (zs : List Row). zs ++ beyond rows) (in_order (board_of rows) (pick (eqb (find_number (board_of rows) address) 0) (without_row address (board_of rows)) (board_of rows)) (board_of rows) k
    ∙ ap (λ (m : ℕ). pick (eqb m 0) (without_row address (board_of rows)) (board_of rows)) z))

-- A call that moves no row, of rows so kept.
very : (rows : List Row) (c : Call) (answer : Answer c) (after : List Row) → SoKept rows → MovesNone c → Does today rows c answer after → Does as_it_was rows c answer after
very rows (enrol settings address gauge) answer after so none e = absurd none
very rows (hear minute address count reply) answer after so none e =
    record {
      answers = answered-by rows so answer (heard_as (hear_number (board_of rows) address count reply) (hear_place (board_of rows) address count reply)) (heard_as 38 0) e.answers;
      leaves = e.leaves ∙ ap (λ (zs : List Row). zs ++ beyond rows) (in_order (board_of rows) (hear_rows (board_of rows) minute address count reply) (board_of rows) (kept-so rows so));
    }
very rows (remove address) answer after so none e = absurd none
very rows (look_up address) answer after so none e = (record { answers = answered-by rows so answer (looked_at (board_of rows) address) (refused_look 38) e.0.answers }, e.1)
very rows (poll address raise reset out) answer after so none e = (
  record {
    answers = answered-by rows so answer.0 (row_poll_number (board_of rows) address raise reset out) 38 e.0.answers;
    leaves = answered-by rows so answer.1 (row_poll_bytes (board_of rows) address raise reset out) out e.0.leaves;
  },
  e.1,
)

pub board-order : BoardOrder
board-order =
    record {
      same_answers = λ start rows others empty calls.
          let r = run start rows others empty calls in
          let b = r.2 in
          (r.0, r.1, b.alike.held, so-kept others b.alike.order, past_by start rows b.past b.many, past_by start others b.past_too b.many_too);
      is_38 = λ rows c answer after none e.
          let p = now rows c answer after e in
          (refused-by rows none answer (said (board_of rows) c) (refused38 c) p.answers, left_alone rows none (made (board_of rows) c) after p.leaves);
      only_38 = λ rows c answer after so e. (call-both rows rows rows (left-then rows c) after (even rows so) c (said (board_of rows) c) answer (has-then rows c) e).1;
      keeps = λ rows c answer after so e.
          so-kept after (call-both rows rows rows (left-then rows c) after (even rows so) c (said (board_of rows) c) answer (has-then rows c) e).2.alike.order;
      as_before = λ rows c a b before after so e f.
          let r = call-both rows rows rows before after (even rows so) c a b e f in
          (r.0, r.2.alike.held, past_by before after (r.2.past_too ∙ sym r.2.past) (r.2.many_too ∙ sym r.2.many));
      very_outcome = very;
      enrol_moves = enrol-moved;
      remove_moves = remove-moved;
      has_front = λ rows so. a-front rows so;
      has_place = λ rows address n so front. a-place rows address n front;
      one-outcome = λ rows c a b after later e f.
          let p = now rows c a after e in
          let q = now rows c b later f in
          (p.answers ∙ sym q.answers, p.leaves ∙ sym q.leaves);
    }
