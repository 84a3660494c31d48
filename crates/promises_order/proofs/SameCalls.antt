-- The old board and the new one side by side. What holds of the two boards: for every address the same rows in use, as many rows in use and as many
-- rows, and the new one so kept. Then all that a call asks is the same of both (`Held`, `Boards`), and each call keeps it, one case for each.
use mathlib.Core.Path.{◌≡◌, refl, sym, ◌∙◌, ap, subst}
use mathlib.Core.Bool.{Bool, true, false, not, ◌&&◌}
use mathlib.Core.List.{List, []}
use Prim.Native.Nat.{ℕ, suc, ◌<◌, ◌≤◌}
use native.Mathlib.Omega.{arith}
use lib.Dec.{eqb, ltb}
use lib.ListN.{length, get_or, set, length-set}
use lib.Seq.{set_out}
use borrow.Author.Tests.{ltb-true, lt-ltb, eqb-true, eqb-false}
use Rattle.frame.specs.Line.{line}
use Rattle.frame.specs.Pick.{pick}
use Rattle.frame.specs.Reply.{reading_at}
use Rattle.board.specs.declared.Row.{Row}
use Rattle.board.specs.Gauge.{profile_misplaced}
use Rattle.board.specs.Row.{is_free, free_row, new_row, with_reading, with_fault, sets_fault, heard_at}
use Rattle.board.specs.Rows.{holds, place_of, row_of, on_board, place_free, has_free}
use Rattle.board.specs.Order.{in_address_order, insert_row, without_row}
use Rattle.board.specs.Calls.{enrol_number, enrol_rows, hear_number, hear_place, hear_rows, find_number, remove_rows}
use Rattle.board.proofs.Places.{place_at}
use Rattle.board.proofs.Order.{neither, used-holds, holds-used, insert-kept, without-kept, set-kept}
use Rattle.board.proofs.Numbers.{enrol-10, enrol-11, enrol-27, enrol-18, enrol-19, find-11, find-17}
use Rattle.promises_frame.proofs.Cases.{by-lt}
use Rattle.promises_order.specs.OldBoard.{old_enrol_rows, old_remove_rows, rows_held_by}
use Rattle.promises_order.proofs.Count.{used, used-set}
use Rattle.promises_order.proofs.Held.{row-of, on-held, held-off, added, apart, held-set-free, held-insert, held-set-other, held-set-own, held-without-other, held-without-own, length-insert, length_without, used-insert, used-without, free-used, first, some, behind}
use Rattle.promises_order.proofs.Boards.{same-find, same-enrol, same-hear, same-named}

-- What a number 0 says of the board.
pub enrol-zero : (board : List Row) (settings address gauge : ℕ) → enrol_number board settings address gauge ≡ 0 → (length board ≤ place_of address board) × (place_free board < length board)
enrol-zero board settings address gauge z =
    by-lt 15 settings (λ s. not-0 10 (enrol-10 board settings address gauge s) refl)
    (λ s. by-lt 999 address (λ a. not-0 11 (enrol-11 board settings address gauge s a) refl)
    (λ a. misplaced s a (profile_misplaced settings gauge) refl))
  where
    not-0 : {A : Type 0} → (n : ℕ) → enrol_number board settings address gauge ≡ n → eqb n 0 ≡ false → A
    not-0 n is e = absurd (eqb-false n 0 e (sym is ∙ z))

    misplaced : settings ≤ 15 → address ≤ 999 → (t : Bool) → profile_misplaced settings gauge ≡ t → (length board ≤ place_of address board) × (place_free board < length board)
    misplaced s a true m = not-0 27 (enrol-27 board settings address gauge s a m) refl
    misplaced s a false m =
        by-lt (place_of address board) (length board) (λ l. not-0 18 (enrol-18 board settings address gauge s a m l) refl)
        (λ l. by-lt (place_free board) (length board) (λ f. (l, f)) (λ f. not-0 19 (enrol-19 board settings address gauge s a m l f) refl))

find-zero : (board : List Row) (address : ℕ) → find_number board address ≡ 0 → place_of address board < length board
find-zero board address z =
    by-lt 999 address (λ a. absurd (eqb-false 11 0 refl (sym (find-11 board address a) ∙ z)))
    (λ a. by-lt (place_of address board) (length board) (λ l. l) (λ l. absurd (eqb-false 17 0 refl (sym (find-17 board address a l) ∙ z))))

-- What holds of the two boards.
pub record Alike (x y : List Row) : Type 0 where
  pub held : (a : ℕ) → rows_held_by a x ≡ rows_held_by a y
  pub many : used x ≡ used y
  pub long : length x ≡ length y
  pub order : in_address_order y ≡ true

module _ (x y : List Row) (w : Alike x y) where
  pub on_same : (a : ℕ) → on_board a x ≡ on_board a y
  on_same a = on-held a x ∙ ap some (w.held a) ∙ sym (on-held a y)

  pub row_same : (a : ℕ) → row_of a x ≡ row_of a y
  row_same a = row-of a x ∙ ap first (w.held a) ∙ sym (row-of a y)

  pub free-same : has_free x ≡ has_free y
  free-same = free-used x ∙ ap (λ (n : ℕ). ltb n (length x)) w.many ∙ ap (ltb (used y)) w.long ∙ sym (free-used y)

  on-there : (a : ℕ) → place_of a y < length y → place_of a x < length x
  on-there a l = ltb-true (place_of a x) (length x) (on_same a ∙ lt-ltb (place_of a y) (length y) l)

  off-there : (a : ℕ) → length y ≤ place_of a y → length x ≤ place_of a x
  off-there a l = by-lt (place_of a x) (length x) (λ h. absurd (omega (arith, back h))) (λ h. h)
    where
      back : place_of a x < length x → place_of a y < length y
      back h = ltb-true (place_of a y) (length y) (sym (on_same a) ∙ lt-ltb (place_of a x) (length x) h)

  room-there : place_free y < length y → place_free x < length x
  room-there l = ltb-true (place_free x) (length x) (free-same ∙ lt-ltb (place_free y) (length y) l)

  -- a new row
  new-alike : (new : Row) → is_free new ≡ false → length y ≤ place_of new.address y → place_free y < length y → Alike (set x (place_free x) new) (insert_row new y)
  new-alike new u off room =
      record {
        held = λ b. held-set-free b new x room-x (none b x off-x) ∙ ap (added b new) (w.held b) ∙ sym (held-insert b new y room (none b y off));
        many = more (is_free (get_or x (place_free x) free_row)) (place_at is_free x room-x) (used-set x (place_free x) new room-x) ∙ ap suc w.many ∙ sym (used-insert new y u room);
        long = length-set x (place_free x) new ∙ w.long ∙ sym (length-insert new y);
        order = insert-kept 0 new y u (omega arith) room off w.order;
      }
    where
      room-x : place_free x < length x
      room-x = room-there room

      off-x : length x ≤ place_of new.address x
      off-x = off-there new.address off

      none : (b : ℕ) (zs : List Row) → length zs ≤ place_of new.address zs → holds b new ≡ true → rows_held_by b zs ≡ []
      none b zs l h = ap (λ (c : ℕ). rows_held_by c zs) (sym (eqb-true new.address b (sym (used-holds b new u) ∙ h))) ∙ held-off new.address zs l

      more : (t : Bool) → t ≡ true → pick t (used (set x (place_free x) new)) (suc (used (set x (place_free x) new))) ≡ pick (is_free new) (used x) (suc (used x)) → used (set x (place_free x) new) ≡ suc (used x)
      more true e h = h ∙ ap (λ (t : Bool). pick t (used x) (suc (used x))) u
      more false e h = neither e refl

  -- a row taken out
  gone-alike : (a : ℕ) → place_of a y < length y → Alike (set x (place_of a x) free_row) (without_row a y)
  gone-alike a l =
      record {
        held = λ b. by b (eqb a b) refl;
        many = fewer (is_free (get_or x (place_of a x) free_row)) (holds-used a (get_or x (place_of a x) free_row) (place_at (holds a) x l-x)) (used-set x (place_of a x) free_row l-x);
        long = length-set x (place_of a x) free_row ∙ w.long ∙ sym (length_without a y);
        order = without-kept a 0 y w.order;
      }
    where
      l-x : place_of a x < length x
      l-x = on-there a l

      own : rows_held_by a (set x (place_of a x) free_row) ≡ rows_held_by a (without_row a y)
      own = held-set-own a free_row x l-x ∙ ap behind (w.held a) ∙ sym (held-without-own a y)

      by : (b : ℕ) (t : Bool) → eqb a b ≡ t → rows_held_by b (set x (place_of a x) free_row) ≡ rows_held_by b (without_row a y)
      by b true e = subst (λ (c : ℕ). rows_held_by c (set x (place_of a x) free_row) ≡ rows_held_by c (without_row a y)) (eqb-true a b e) own
      by b false e = let ne = eqb-false a b e in held-set-other a free_row b x ne refl ∙ w.held b ∙ sym (held-without-other a b y ne)

      fewer : (t : Bool) → t ≡ false → pick t (used (set x (place_of a x) free_row)) (suc (used (set x (place_of a x) free_row))) ≡ used x → used (set x (place_of a x) free_row) ≡ used (without_row a y)
      fewer true e h = neither refl e
      fewer false e h = let g = used-without a y l in omega (arith, w.many)

  -- a row heard: one in use as it was, with its address
  heard-alike : (a : ℕ) (new : Row) → is_free new ≡ is_free (row_of a y) → new.address ≡ (row_of a y).address → Alike (set x (place_of a x) new) (set y (place_of a y) new)
  heard-alike a new u own = by-lt (place_of a y) (length y) here (λ l. gone l)
    where
      gone : length y ≤ place_of a y → Alike (set x (place_of a x) new) (set y (place_of a y) new)
      gone l =
          subst (λ (zs : List Row). Alike zs (set y (place_of a y) new)) (sym (set_out x (place_of a x) new (off-there a l)))
          (subst (λ (zs : List Row). Alike x zs) (sym (set_out y (place_of a y) new l)) w)

      here : place_of a y < length y → Alike (set x (place_of a x) new) (set y (place_of a y) new)
      here l =
          record {
            held = λ b. by b (eqb a b) refl;
            many = same (is_free new) (is_free (row_of a x)) (is_free (row_of a y)) free-x (sym u) (used-set x (place_of a x) new l-x) (used-set y (place_of a y) new l);
            long = length-set x (place_of a x) new ∙ w.long ∙ sym (length-set y (place_of a y) new);
            order = set-kept 0 y (place_of a y) new u own ∙ w.order;
          }
        where
          l-x : place_of a x < length x
          l-x = on-there a l

          free-x : is_free (row_of a x) ≡ is_free new
          free-x = ap is_free (row_same a) ∙ sym u

          -- the new row is the address's too
          mine : holds a new ≡ true
          mine = ap (λ (t : Bool). not t && eqb new.address a) u ∙ ap (λ (n : ℕ). not (is_free (row_of a y)) && eqb n a) own ∙ place_at (holds a) y l

          by : (b : ℕ) (t : Bool) → eqb a b ≡ t → rows_held_by b (set x (place_of a x) new) ≡ rows_held_by b (set y (place_of a y) new)
          by b true e =
              subst (λ (c : ℕ). rows_held_by c (set x (place_of a x) new) ≡ rows_held_by c (set y (place_of a y) new)) (eqb-true a b e)
              (held-set-own a new x l-x ∙ ap (λ (zs : List Row). added a new (behind zs)) (w.held a) ∙ sym (held-set-own a new y l))
          by b false e =
              let ne = eqb-false a b e in
              let n = apart a b new ne mine in
              held-set-other a new b x ne n ∙ w.held b ∙ sym (held-set-other a new b y ne n)

          same : (n s t : Bool) → s ≡ n → t ≡ n → pick s (used (set x (place_of a x) new)) (suc (used (set x (place_of a x) new))) ≡ pick n (used x) (suc (used x))
              → pick t (used (set y (place_of a y) new)) (suc (used (set y (place_of a y) new))) ≡ pick n (used y) (suc (used y)) → used (set x (place_of a x) new) ≡ used (set y (place_of a y) new)
          same true true true e f g h = g ∙ w.many ∙ sym h
          same true false t e f g h = neither e refl
          same true true false e f g h = neither f refl
          same false true t e f g h = neither refl e
          same false false true e f g h = neither refl f
          same false false false e f g h = omega (arith, w.many)

  -- Each call keeps it.
  pub enrol-alike : (settings address gauge : ℕ) → Alike (old_enrol_rows x settings address gauge) (enrol_rows y settings address gauge)
  unfolding old_enrol_rows enrol_rows
  enrol-alike settings address gauge =
      subst (λ (n : ℕ). Alike (pick (eqb n 0) (set x (place_free x) (new_row settings address gauge)) x) (pick (eqb (enrol_number y settings address gauge) 0) (insert_row (new_row settings address gauge) y) y)) (sym number) (go (eqb (enrol_number y settings address gauge) 0) refl)
    where
      number : enrol_number x settings address gauge ≡ enrol_number y settings address gauge
      number = same-enrol x y address (on_same address) settings gauge free-same

      go : (t : Bool) → eqb (enrol_number y settings address gauge) 0 ≡ t → Alike (pick t (set x (place_free x) (new_row settings address gauge)) x) (pick t (insert_row (new_row settings address gauge) y) y)
      go true e =
          let z = enrol-zero y settings address gauge (eqb-true (enrol_number y settings address gauge) 0 e) in
          new-alike (new_row settings address gauge) refl z.0 z.1
      go false e = w

  pub remove-alike : (address : ℕ) → Alike (old_remove_rows x address) (remove_rows y address)
  unfolding old_remove_rows remove_rows
  remove-alike address =
      subst (λ (n : ℕ). Alike (pick (eqb n 0) (set x (place_of address x) free_row) x) (pick (eqb (find_number y address) 0) (without_row address y) y)) (sym (same-find x y address (on_same address))) (go (eqb (find_number y address) 0) refl)
    where
      go : (t : Bool) → eqb (find_number y address) 0 ≡ t → Alike (pick t (set x (place_of address x) free_row) x) (pick t (without_row address y) y)
      go true e = gone-alike address (find-zero y address (eqb-true (find_number y address) 0 e))
      go false e = w

  module _ (minute address count : ℕ) (reply : List ℕ) where
    -- what a hearing leaves, by the number, the place that it names and the row
    abbrev left : List Row → ℕ → ℕ → Row → List Row
    left zs n p row = pick (eqb n 0) (set zs (place_of address zs) (with_reading (heard_at row minute) (reading_at row.settings count (line reply)) minute)) (pick (sets_fault n) (set zs (place_of address zs) (with_fault (heard_at row minute) n p)) zs)

    by_number : (n p : ℕ) (s t : Bool) → Alike (pick s (set x (place_of address x) (with_reading (heard_at (row_of address y) minute) (reading_at (row_of address y).settings count (line reply)) minute)) (pick t (set x (place_of address x) (with_fault (heard_at (row_of address y) minute) n p)) x))
        (pick s (set y (place_of address y) (with_reading (heard_at (row_of address y) minute) (reading_at (row_of address y).settings count (line reply)) minute)) (pick t (set y (place_of address y) (with_fault (heard_at (row_of address y) minute) n p)) y))
    by_number n p true t = heard-alike address (with_reading (heard_at (row_of address y) minute) (reading_at (row_of address y).settings count (line reply)) minute) refl refl
    by_number n p false true = heard-alike address (with_fault (heard_at (row_of address y) minute) n p) refl refl
    by_number n p false false = w

    pub hear-alike : Alike (hear_rows x minute address count reply) (hear_rows y minute address count reply)
    unfolding hear_rows
    hear-alike =
        subst (λ (n : ℕ). Alike (left x n (hear_place x address count reply) (row_of address x)) (left y (hear_number y address count reply) (hear_place y address count reply) (row_of address y))) (sym (same-hear x y address (on_same address) (row_same address) count reply))
        (subst (λ (p : ℕ). Alike (left x (hear_number y address count reply) p (row_of address x)) (left y (hear_number y address count reply) (hear_place y address count reply) (row_of address y))) (sym (same-named x y address (on_same address) (row_same address) count reply))
        (subst (λ (r : Row). Alike (left x (hear_number y address count reply) (hear_place y address count reply) r) (left y (hear_number y address count reply) (hear_place y address count reply) (row_of address y))) (sym (row_same address))
        (by_number (hear_number y address count reply) (hear_place y address count reply) (eqb (hear_number y address count reply) 0) (sets_fault (hear_number y address count reply)))))
