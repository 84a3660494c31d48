-- The view over any calls, by induction on the calls made side by side. Of two boards of one view both are so kept or neither. Neither: every call is refused
-- by 38 and leaves them. Both: each call does what it did of the board as it was (`OneView`), but for where rows stand, and no look tells of that; and
-- there stay as many free rows, for free rows and rows in use are together all rows, and the calls count the latter alike.
use mathlib.Core.Path.{◌≡◌, refl, sym, ◌∙◌, ap, subst}
use mathlib.Core.Bool.{Bool, true, false}
use mathlib.Core.List.{List, [], ◌∷◌, ◌++◌}
use Prim.Native.Nat.{ℕ, suc, ◌+◌, ◌<◌, ◌≤◌, min}
use native.Mathlib.Omega.{arith}
use lib.Dec.{eqb, ltb}
use lib.ListN.{length, length-take, take-append-drop, get_or-eq_default}
use borrow.Author.Tests.{lt-ltb, le-ltb}
use Rattle.frame.specs.Pick.{pick}
use Rattle.board.specs.declared.Looked.{Looked}
use Rattle.board.specs.declared.Row.{Row}
use Rattle.board.specs.Row.{is_free, is_in_use, free_row}
use Rattle.board.specs.Rows.{board_of, beyond, place_of, row_of, place_free, has_free}
use Rattle.board.specs.Calls.{row_told, refused_look}
use Rattle.board.proofs.Numbers.{find-0}
use Rattle.promises_order.specs.Places.{row_at, Empty}
use Rattle.promises_board.specs.Calls.{Unknown}
use Rattle.promises_board.specs.View.{view, SameView, FreeAlike, free_in, AsManyFree, FreeFor, SideBySide, both_begun, both_call, AnsweredAlike, BoardView}
use Rattle.promises_frame.proofs.Cases.{by-lt}
use Rattle.promises_board.proofs.Places.{same_row, board-on, place-row}
use Rattle.promises_order.proofs.Count.{used, used-none, used-full, used-room}
use Rattle.promises_board.proofs.Done.{off-unknown}
use Rattle.promises_board.proofs.After.{look-told}
use Rattle.promises_board.proofs.Readings.{looked-bad, looked-unknown}
use Rattle.promises_board.specs.History.{taken_by, given_by}
use Rattle.promises_board.proofs.History.{call-balance}
use Rattle.promises_board.proofs.Since.{free-not-used}
use Rattle.promises_board.proofs.OneView.{same-find, same-enrol, same-hear, enrol-same, hear-same, remove-same, poll-same}
use Rattle.promises_order.specs.Order.{SoKept, SameInUse}
use Rattle.promises_order.proofs.SoKept.{kept-so, not-kept}
use Rattle.promises_order.proofs.Boards.{same-looked}
use Rattle.promises_order.specs.Calls.{today, Call, enrol, hear, remove, look_up, poll, Answer, Does}
use Rattle.promises_order.proofs.Order.{in_order, out_of_order, said, left-then, has-then, pair_same, in-use-then, board-order}
use Rattle.promises_board.proofs.OldView.{view as oldView, SameView as OldSameView}
use Rattle.promises_board.proofs.Now.{by_order}
use Rattle.promises_board.proofs.SameHistory.{on_both, row-both}
use Rattle.promises_board.proofs.HistoryNow.{call-past, empty-kept, kept-once}

-- Free rows and rows in use are together all rows, so a board has a free row exactly where one is counted.
together-by : (t : Bool) (f u n : ℕ) → f + u ≡ n → pick t (suc f) f + pick t u (suc u) ≡ suc n
together-by true f u n e = omega arith
together-by false f u n e = omega arith

free-and-used : (board : List Row) → free_in board + used board ≡ length board
unfolding free_in used
free-and-used [] = refl
free-and-used (row ∷ rows) = together-by (is_free row) (free_in rows) (used rows) (length rows) (free-and-used rows)

has-free : (board : List Row) → has_free board ≡ ltb 0 (free_in board)
has-free board =
    by-lt (place_free board) (length board)
    (λ l. lt-ltb (place_free board) (length board) l ∙ sym (lt-ltb 0 (free_in board) (omega (arith, used-room board l, free-and-used board))))
    (λ l. le-ltb (place_free board) (length board) l ∙ sym (le-ltb 0 (free_in board) (omega (arith, used-full board l, free-and-used board))))

free-alike : (rows others : List Row) → AsManyFree rows others → FreeAlike rows others
free-alike rows others e = has-free (board_of rows) ∙ ap (ltb 0) e ∙ sym (has-free (board_of others))

-- The free rows after calls that left as many rows and counted those in use alike.
board-many : (rows after : List Row) → length after ≡ length rows → length (board_of after) ≡ length (board_of rows)
board-many rows after e = length-take 30 after ∙ ap (min 30) e ∙ sym (length-take 30 rows)

free-after : (rows after : List Row) → length after ≡ length rows → free_in (board_of after) + used (board_of after) ≡ free_in (board_of rows) + used (board_of rows)
free-after rows after e = free-and-used (board_of after) ∙ board-many rows after e ∙ sym (free-and-used (board_of rows))

-- as many taken on both boards, and as many given back
even-by : (f g u v f' g' u' v' m n : ℕ) → f ≡ g → f' + u' ≡ f + u → g' + v' ≡ g + v → u' + m ≡ u + n → v' + m ≡ v + n → f' ≡ g'
even-by f g u v f' g' u' v' m n e a b c d = omega arith

plus-by : (t : Bool) (n : ℕ) → pick t (suc n) n ≡ n + pick t 1 0
plus-by true n = omega arith
plus-by false n = omega arith

taken-plus : (c : Call) (answer : Answer c) (n : ℕ) → taken_by c answer n ≡ n + taken_by c answer 0
taken-plus (enrol settings address gauge) answer n = plus-by (eqb answer 0) n
taken-plus (hear minute address count reply) answer n = omega arith
taken-plus (remove address) answer n = omega arith
taken-plus (look_up address) answer n = omega arith
taken-plus (poll address raise reset out) answer n = omega arith

-- The rows in use after a call of rows so kept, counted.
call-counts : (rows after : List Row) → SoKept rows → (c : Call) (answer : Answer c) → Does today rows c answer after → used (board_of after) + given_by c answer 0 ≡ used (board_of rows) + taken_by c answer 0
call-counts rows after so c answer e =
    let same = (board-order.as_before rows c (said (board_of rows) c) answer (left-then rows c) after so (has-then rows c) e).0 in
    ap (λ (n : ℕ). n + given_by c answer 0) (sym (in-use-then rows c answer after so e))
    ∙ subst (λ (a : Answer c). used (board_of (left-then rows c)) + given_by c a 0 ≡ taken_by c a (used (board_of rows))) same
    (call-balance rows c (said (board_of rows) c) (left-then rows c) (has-then rows c) 0 (used (board_of rows)) (omega arith))
    ∙ taken-plus c answer (used (board_of rows))

-- The view of rows so kept is what a look told of the board as it was; of others every look is refused by 38.
module _ (rows : List Row) where
  view-so : SoKept rows → (address : ℕ) → view rows address ≡ oldView rows address
  view-so so address = in_order (board_of rows) (oldView rows address) (refused_look 38) (kept-so rows so)

  view-38 : (SoKept rows → ⊥) → (address : ℕ) → view rows address ≡ refused_look 38
  view-38 none address = out_of_order (board_of rows) (oldView rows address) (refused_look 38) (not-kept rows none)

-- Boards of one view are both so kept, or neither.
so-too : (rows others : List Row) → SameView rows others → SoKept rows → SoKept others
so-too rows others same so =
    by_order others (λ too. too) (λ none. absurd (board-order.only_38 rows (look_up 0) (view rows 0) rows so ((record { answers = refl }), refl) (ap (λ (l : Looked). l.number) (same 0 ∙ view-38 others none 0))))

both_so : {A : Type 0} (rows others : List Row) → SameView rows others → (SoKept rows → SoKept others → OldSameView rows others → A) → ((SoKept rows → ⊥) → (SoKept others → ⊥) → A) → A
both_so rows others same f g =
    by_order rows (λ so. let too = so-too rows others same so in f so too (λ a. sym (view-so rows so a) ∙ same a ∙ view-so others too a))
    (λ none. g none (λ too. none (so-too others rows (λ a. sym (same a)) too)))

-- Rows with the same rows in use are of one view, wherever they stand.
moved_view : (before after : List Row) → SameInUse before after → (address : ℕ) → oldView before address ≡ oldView after address
moved_view before after same address = same-looked (board_of before) (board_of after) address (on_both before after same address) (row-both before after same address)

to-view : (rows others : List Row) → SoKept rows → SoKept others → OldSameView rows others → SameView rows others
to-view rows others so too old address = view-so rows so address ∙ old address ∙ sym (view-so others too address)

-- What a call made of two boards of one view, as the board was: the same answer, and two boards of one view.
module _ (rows others : List Row) (old : OldSameView rows others) (so : SoKept rows) (too : SoKept others) where
  left-view : OldSameView (board_of rows ++ beyond rows) (board_of others ++ beyond others)
  left-view k = ap (λ (zs : List Row). oldView zs k) (take-append-drop 30 rows) ∙ old k ∙ sym (ap (λ (zs : List Row). oldView zs k) (take-append-drop 30 others))

  same_then : (c : Call) → FreeFor c rows others → (said (board_of rows) c ≡ said (board_of others) c) × OldSameView (left-then rows c) (left-then others c)
  same_then (enrol settings address gauge) free =
      let is = same-enrol rows others old free settings address gauge in
      (is, enrol-same rows others _ _ old address settings gauge _ _ is (has-then rows (enrol settings address gauge)) (has-then others (enrol settings address gauge)))
  same_then (hear minute address count reply) free =
      let is = same-hear address count reply rows others old in
      (is, hear-same rows others _ _ old address minute count reply _ _ is (has-then rows (hear minute address count reply)) (has-then others (hear minute address count reply)))
  same_then (remove address) free =
      let is = same-find rows others old address in
      (is, remove-same rows others _ _ old address _ _ is (kept-once rows so) (kept-once others too) (has-then rows (remove address)) (has-then others (remove address)))
  same_then (look_up address) free = (old address, left-view)
  same_then (poll address raise reset out) free =
      let is = poll-same rows others old address raise reset out _ _ _ _ (has-then rows (poll address raise reset out)).0 (has-then others (poll address raise reset out)).0 in
      (pair_same _ _ _ _ is.0 is.1, left-view)

-- One call of two boards of one view.
module _ (rows others after later : List Row) (same : SameView rows others) (c : Call) (a b : Answer c) (e : Does today rows c a after) (f : Does today others c b later) where
  kept-both : FreeFor c rows others → SoKept rows → SoKept others → OldSameView rows others → (a ≡ b) × SameView after later
  kept-both free so too old =
      let p = board-order.as_before rows c (said (board_of rows) c) a (left-then rows c) after so (has-then rows c) e in
      let q = board-order.as_before others c (said (board_of others) c) b (left-then others c) later too (has-then others c) f in
      let s = same_then rows others old so too c free in (
        sym p.0 ∙ s.0 ∙ q.0,
        to-view after later (board-order.keeps rows c a after so e) (board-order.keeps others c b later too f)
            (λ k. sym (moved_view (left-then rows c) after p.1 k) ∙ s.1 k ∙ moved_view (left-then others c) later q.1 k),
      )

  call-both : FreeFor c rows others → (a ≡ b) × SameView after later
  call-both free =
      both_so rows others same (kept-both free)
      (λ none none-too.
      let p = board-order.is_38 rows c a after none e in
      let q = board-order.is_38 others c b later none-too f in
      (p.0 ∙ sym q.0, λ k. ap (λ (zs : List Row). view zs k) p.1 ∙ same k ∙ sym (ap (λ (zs : List Row). view zs k) q.1)))

  call-many : a ≡ b → AsManyFree rows others → AsManyFree after later
  call-many is many =
      both_so rows others same
      (λ so too old.
      even-by (free_in (board_of rows)) (free_in (board_of others)) (used (board_of rows)) (used (board_of others)) (free_in (board_of after)) (free_in (board_of later)) (used (board_of after)) (used (board_of later)) (given_by c a 0) (taken_by c a 0) many
      (free-after rows after (call-past rows c a after e).as_many) (free-after others later (call-past others c b later f).as_many) (call-counts rows after so c a e)
      (subst (λ (x : Answer c). used (board_of later) + given_by c x 0 ≡ used (board_of others) + taken_by c x 0) (sym is) (call-counts others later too c b f)))
      (λ none none-too.
      ap (λ (zs : List Row). free_in (board_of zs)) (board-order.is_38 rows c a after none e).1 ∙ many
      ∙ sym (ap (λ (zs : List Row). free_in (board_of zs)) (board-order.is_38 others c b later none-too f).1))

-- What holds of two boards side by side.
record Even (rows others : List Row) : Type 0 where
  same : SameView rows others
  many : AsManyFree rows others

free-for : (rows others : List Row) → AsManyFree rows others → (c : Call) → FreeFor c rows others
free-for rows others many (enrol settings address gauge) = free-alike rows others many
free-for rows others many (hear minute address count reply) = tt
free-for rows others many (remove address) = tt
free-for rows others many (look_up address) = tt
free-for rows others many (poll address raise reset out) = tt

-- Calls made of both keep it, and are answered alike.
run : (start begin rows others : List Row) → Even start begin → (calls : SideBySide start begin rows others) → AnsweredAlike calls × Even rows others
run start begin rows others even both_begun = (tt, even)
run start begin after later even (both_call {rows} {others} c a b calls e f) =
    let r = run start begin rows others even calls in
    let l = r.1 in
    let s = call-both rows others after later l.same c a b e f (free-for rows others l.many c) in
    ((s.0, r.0), record { same = s.1; many = call-many rows others after later l.same c a b e f s.0 l.many })

-- An address is on the board exactly where the row of it is in use.
module _ (rows : List Row) (address : ℕ) where
  used-on : place_of address (board_of rows) < length (board_of rows) → is_in_use (row_of address (board_of rows)) ≡ true
  used-on l = ap is_in_use (same_row rows (place_of address (board_of rows)) l) ∙ (place-row rows address l).here.used

  on-used : is_in_use (row_of address (board_of rows)) ≡ true → place_of address (board_of rows) < length (board_of rows)
  on-used u =
      by-lt (place_of address (board_of rows)) (length (board_of rows)) (λ l. l)
      (λ l. absurd (free-not-used free_row refl (sym (ap is_in_use (get_or-eq_default (board_of rows) free_row l)) ∙ u)))

-- Two boards refuse the look at an address alike, where neither has it or it is above 999.
both-bad : (rows others : List Row) (address : ℕ) → 999 < address → oldView rows address ≡ oldView others address
both-bad rows others address a =
    looked-bad rows address (oldView rows address) (record { answers = refl }) a ∙ sym (looked-bad others address (oldView others address) (record { answers = refl }) a)

both-unknown : (rows others : List Row) (address : ℕ) → address ≤ 999 → Unknown rows address → Unknown others address → oldView rows address ≡ oldView others address
both-unknown rows others address a u v =
    looked-unknown rows address (oldView rows address) (record { answers = refl }) a u ∙ sym (looked-unknown others address (oldView others address) (record { answers = refl }) a v)

wherever : (rows others : List Row) → ((address : ℕ) → address ≤ 999 → row_of address (board_of rows) ≡ row_of address (board_of others)) → OldSameView rows others
wherever rows others same address =
    by-lt 999 address (both-bad rows others address)
    (λ a. by-lt (place_of address (board_of rows)) (length (board_of rows))
    (λ l. let m = on-used others address (sym (ap is_in_use (same address a)) ∙ used-on rows address l) in
    look-told (board_of rows) address (find-0 (board_of rows) address a l) ∙ ap row_told (same address a) ∙ sym (look-told (board_of others) address (find-0 (board_of others) address a m)))
    (λ l. both-unknown rows others address a (off-unknown rows address l)
    (off-unknown others address
    (by-lt (place_of address (board_of others)) (length (board_of others))
    (λ k. let m = on-used rows address (ap is_in_use (same address a) ∙ used-on others address k) in absurd (omega arith))
    (λ k. k)))))

-- Empty boards: every look is refused, and every row is free.
module _ (start : List Row) (empty : Empty start) where
  nobody : (address : ℕ) → Unknown start address
  nobody address i on h = free-not-used (row_at start i) (empty i on) h.used

  all-free : free_in (board_of start) ≡ min 30 (length start)
  all-free =
      let z = used-none (board_of start) (λ i l. ap is_free (same_row start i l) ∙ empty i (board-on start i l)) in
      omega (arith, z, free-and-used (board_of start), length-take 30 start)

empty-view : (start begin : List Row) → Empty start → Empty begin → OldSameView start begin
empty-view start begin empty empty-too address =
    by-lt 999 address (both-bad start begin address) (λ a. both-unknown start begin address a (nobody start empty address) (nobody begin empty-too address))

pub board-view : BoardView
board-view =
    record {
      told = λ rows address answer e. e.answers;
      wherever = λ rows others so too same. to-view rows others so too (wherever rows others same);
      one-call = λ rows others after later c a b same free e f. call-both rows others after later same c a b e f free;
      any_calls = λ start begin rows others same many calls.
          let r = run start begin rows others (record { same = same; many = many }) calls in
          (r.0, r.1.same, r.1.many);
      begun_empty = λ start begin empty empty-too rooms. (
        to-view start begin (empty-kept start empty) (empty-kept begin empty-too) (empty-view start begin empty empty-too),
        all-free start empty ∙ rooms ∙ sym (all-free begin empty-too),
      );
    }
