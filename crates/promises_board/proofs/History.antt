-- Any sequence of calls, by induction on the history. A call sets one row or none; a row that is set holds the address it held, or none, or a new one
-- that no row held. The rows in use and the removals are together as many as the enrolments.
use mathlib.Core.Path.{◌≡◌, refl, sym, ◌∙◌, ap, subst}
use mathlib.Core.Bool.{Bool, true, false, not}
use mathlib.Core.List.{List}
use Prim.Native.Nat.{ℕ, suc, ◌+◌, ◌<◌, ◌≤◌, min}
use native.Mathlib.Omega.{arith}
use lib.Dec.{eqb}
use lib.ListN.{length, set, take, get_or, length-take, length-set}
use lib.Seq.{take-set-lt}
use borrow.Author.Tests.{eqb-true, eqb-false}
use Rattle.frame.specs.Pick.{pick}
use Rattle.board.specs.declared.Heard.{Heard}
use Rattle.board.specs.declared.Row.{Row}
use Rattle.board.specs.Gauge.{profile_misplaced}
use Rattle.board.specs.Row.{is_free, is_in_use, free_row, new_row}
use Rattle.board.specs.Rows.{board_of, place_of, place_free}
use Rattle.promises_order.specs.OldBoard.{OldEnrols as Enrols}
use Rattle.board.proofs.Numbers.{enrol-19, enrol-0}
use Rattle.promises_order.specs.Places.{row_at, OnBoard, Empty}
use Rattle.promises_board.specs.Calls.{Holds, Unknown, OnlyRow}
use Rattle.promises_order.specs.Calls.{as_it_was, Call, enrol, hear, remove, look_up, poll, Answer, Does}
use Rattle.promises_board.specs.History.{History, begun, called, NoneTwice, taken_by, given_by, rows_taken, given, BoardHistory}
use Rattle.promises_board.proofs.Places.{on-board, board-on, same_row, unknown-off}
use Rattle.promises_order.proofs.Count.{used, used-set, used-none, used-full, used-room}
use Rattle.promises_frame.proofs.Cases.{by-lt}
use Rattle.promises_board.proofs.Done.{set-only, Enrolled, not-enrolled, took, enrol-done, Removed, not_removed, gave, remove-done, HearDone, not-heard, faulty, good, hear-done}

in-use-free : (row : Row) → is_free row ≡ true → is_in_use row ≡ true → ⊥
in-use-free row f u = let z : ◌≡◌ {A = Bool} false true = sym (ap not f) ∙ u in let bad : ◌≡◌ {A = ℕ} 0 1 = cc in omega arith

used-not-free : (t : Bool) → not t ≡ true → t ≡ false
used-not-free true e = let bad : ◌≡◌ {A = ℕ} 0 1 = cc in absurd (omega arith)
used-not-free false e = refl

-- The first 30 rows, where one of them was set.
board-set : (rows after : List Row) (i : ℕ) (row : Row) → OnBoard rows i → after ≡ set rows i row → board_of after ≡ set (board_of rows) i row
board-set rows after i row p e = ap (λ (zs : List Row). take 30 zs) e ∙ take-set-lt 30 rows i row p.counts

-- What a call does to the rows: nothing, or one row of the board is set.
pub data Step (rows : List Row) : List Row → Type 0 where
  nothing : {after : List Row} → after ≡ rows → Step rows after
  sets : {after : List Row} (i : ℕ) (row : Row) → OnBoard rows i → after ≡ set rows i row → Step rows after

pub hear-step : {rows after : List Row} {minute address count : ℕ} {answer : Heard} {reply : List ℕ} → HearDone rows minute address count reply answer after → Step rows after
hear-step (not-heard z l e) = nothing e
hear-step (faulty l a p e n) = sets _ _ p.place e
hear-step (good z a p f e) = sets _ _ p.place e

pub enrol-step : {rows after : List Row} {settings address gauge answer : ℕ} → Enrolled rows settings address gauge answer after → Step rows after
enrol-step (not-enrolled z e) = nothing e
enrol-step (took z a u p e) = sets _ _ p.place e

pub remove-step : {rows after : List Row} {address answer : ℕ} → Removed rows address answer after → Step rows after
remove-step (not_removed z e) = nothing e
remove-step (gave z a p e) = sets _ _ p.place e

pub step-many : {rows after : List Row} → Step rows after → length after ≡ length rows
step-many (nothing e) = ap length e
step-many {rows} (sets i row p e) = ap length e ∙ length-set rows i row

pub step-beyond : {rows after : List Row} → Step rows after → (i : ℕ) → 30 ≤ i → row_at after i ≡ row_at rows i
step-beyond (nothing e) i l = ap (λ (zs : List Row). row_at zs i) e
step-beyond {rows} {after} (sets j row p e) i l = (set-only rows after j row p e).others i (λ s. omega (arith, p.counts))

pub call_step : (rows : List Row) (c : Call) (answer : Answer c) (after : List Row) → Does as_it_was rows c answer after → Step rows after
call_step rows (enrol settings address gauge) answer after e = enrol-step (enrol-done rows settings address gauge answer after e)
call_step rows (hear minute address count reply) answer after e = hear-step (hear-done rows minute address count reply answer after e)
call_step rows (remove address) answer after e = remove-step (remove-done rows address answer after e)
call_step rows (look_up address) answer after e = nothing e.1
call_step rows (poll address raise reset out) answer after e = nothing e.1

module _ (start : List Row) where
  as_many : (now : List Row) → History as_it_was start now → length now ≡ length start
  as_many now begun = refl
  as_many now (called {rows} c answer h e) = step-many (call_step rows c answer now e) ∙ as_many rows h

  beyond-stays : (now : List Row) → History as_it_was start now → (i : ℕ) → 30 ≤ i → row_at now i ≡ row_at start i
  beyond-stays now begun i l = refl
  beyond-stays now (called {rows} c answer h e) i l = step-beyond (call_step rows c answer now e) i l ∙ beyond-stays rows h i l

-- No address twice: a row set to one that holds no address but its old one, or one that no row held, makes no second row of an address.
module _ (rows after : List Row) where
  on_same : length after ≡ length rows → (i : ℕ) → OnBoard after i → OnBoard rows i
  on_same l i p = record { counts = p.counts; lent = omega (arith, p.lent) }

  fewer : length after ≡ length rows → ((i address : ℕ) → Holds (row_at after i) address → Holds (row_at rows i) address) → NoneTwice rows → NoneTwice after
  fewer l back once i j address p q h k = once i j address (on_same l i p) (on_same l j q) (back i address h) (back j address k)

  -- the row i alone was set
  module _ (i : ℕ) (row : Row) (only : OnlyRow rows i row after) where
    at_row : {address : ℕ} (j : ℕ) → j ≡ i → Holds (row_at after j) address → Holds row address
    at_row {address} j e h = subst (λ (r : Row). Holds r address) (ap (λ (k : ℕ). row_at after k) e ∙ only.own) h

    elsewhere : {address : ℕ} (j : ℕ) → (j ≡ i → ⊥) → Holds (row_at after j) address → Holds (row_at rows j) address
    elsewhere {address} j ne h = subst (λ (r : Row). Holds r address) (only.others j ne) h

    fewer-set : ((address : ℕ) → Holds row address → Holds (row_at rows i) address) → NoneTwice rows → NoneTwice after
    fewer-set back = fewer only.as_many (λ j address h. go j address (eqb j i) refl h)
      where
        go : (j address : ℕ) (t : Bool) → eqb j i ≡ t → Holds (row_at after j) address → Holds (row_at rows j) address
        go j address true e h = let is : j ≡ i = eqb-true j i e in subst (λ (k : ℕ). Holds (row_at rows k) address) (sym is) (back address (at_row j is h))
        go j address false e h = elsewhere j (eqb-false j i e) h

    one-new : (new : ℕ) → row.address ≡ new → Unknown rows new → NoneTwice rows → NoneTwice after
    one-new new is none once j k address p q h g = go (eqb j i) refl (eqb k i) refl
      where
        known : (m : ℕ) → m ≡ i → Holds (row_at after m) address → address ≡ new
        known m e held = sym (at_row m e held).same ∙ is

        not_there : (m : ℕ) → OnBoard after m → (m ≡ i → ⊥) → Holds (row_at after m) address → address ≡ new → ⊥
        not_there m on ne held a = none m (on_same only.as_many m on) (subst (λ (x : ℕ). Holds (row_at rows m) x) a (elsewhere m ne held))

        go : (s : Bool) → eqb j i ≡ s → (t : Bool) → eqb k i ≡ t → j ≡ k
        go true s true t = eqb-true j i s ∙ sym (eqb-true k i t)
        go true s false t = absurd (not_there k q (eqb-false k i t) g (known j (eqb-true j i s) h))
        go false s true t = absurd (not_there j p (eqb-false j i s) h (known k (eqb-true k i t) g))
        go false s false t = once j k address (on_same only.as_many j p) (on_same only.as_many k q) (elsewhere j (eqb-false j i s) h) (elsewhere k (eqb-false k i t) g)

same-twice : (rows after : List Row) → after ≡ rows → NoneTwice rows → NoneTwice after
same-twice rows after e once = subst NoneTwice (sym e) once

pub enrol-twice : (rows after : List Row) (settings address gauge answer : ℕ) → Enrolled rows settings address gauge answer after → NoneTwice rows → NoneTwice after
enrol-twice rows after settings address gauge answer (not-enrolled z e) once = same-twice rows after e once
enrol-twice rows after settings address gauge answer (took z a u p e) once = one-new rows after (place_free (board_of rows)) (new_row settings address gauge) (set-only rows after (place_free (board_of rows)) (new_row settings address gauge) p.place e) address refl u once

pub hear-twice : (rows after : List Row) (minute address count : ℕ) (reply : List ℕ) (answer : Heard) → HearDone rows minute address count reply answer after → NoneTwice rows → NoneTwice after
hear-twice rows after minute address count reply answer (not-heard z l e) once = same-twice rows after e once
hear-twice rows after minute address count reply answer (faulty l a p e n) once =
    fewer-set rows after _ _ (set-only rows after _ _ p.place e) (λ b h. record { used = h.used; same = h.same }) once
hear-twice rows after minute address count reply answer (good z a p f e) once =
    fewer-set rows after _ _ (set-only rows after _ _ p.place e) (λ b h. record { used = h.used; same = h.same }) once

pub remove-twice : (rows after : List Row) (address answer : ℕ) → Removed rows address answer after → NoneTwice rows → NoneTwice after
remove-twice rows after address answer (not_removed z e) once = same-twice rows after e once
remove-twice rows after address answer (gave z a p e) once = fewer-set rows after _ free_row (set-only rows after _ free_row p.place e) (λ b h. absurd (in-use-free free_row refl h.used)) once

pub empty-twice : (start : List Row) → Empty start → NoneTwice start
empty-twice start empty i j address p q h k = absurd (in-use-free (row_at start i) (empty i p) h.used)

call-twice : (rows : List Row) (c : Call) (answer : Answer c) (after : List Row) → Does as_it_was rows c answer after → NoneTwice rows → NoneTwice after
call-twice rows (enrol settings address gauge) answer after e = enrol-twice rows after settings address gauge answer (enrol-done rows settings address gauge answer after e)
call-twice rows (hear minute address count reply) answer after e = hear-twice rows after minute address count reply answer (hear-done rows minute address count reply answer after e)
call-twice rows (remove address) answer after e = remove-twice rows after address answer (remove-done rows address answer after e)
call-twice rows (look_up address) answer after e = same-twice rows after e.1
call-twice rows (poll address raise reset out) answer after e = same-twice rows after e.1

pub none-twice : (start now : List Row) → Empty start → History as_it_was start now → NoneTwice now
none-twice start now empty begun = empty-twice start empty
none-twice start now empty (called {rows} c answer h e) = call-twice rows c answer now e (none-twice start rows empty h)

-- The rows in use. `counts` is the law of one row set, at what is known of the two rows.
module _ (rows after : List Row) (i : ℕ) (row : Row) (p : OnBoard rows i) (e : after ≡ set rows i row) where
  abbrev one : Bool → ℕ → ℕ
  one free n = pick free n (suc n)

  counts : (s t : Bool) → is_free (row_at rows i) ≡ s → is_free row ≡ t → one s (used (board_of after)) ≡ one t (used (board_of rows))
  counts s t a b =
      let l : i < length (board_of rows) = on-board rows i p in
      ap (λ (x : Bool). one x (used (board_of after))) (sym a ∙ sym (ap is_free (same_row rows i l))) ∙ ap (λ (zs : List Row). one (is_free (get_or (board_of rows) i free_row)) (used zs)) (board-set rows after i row p e)
      ∙ used-set (board_of rows) i row l
      ∙ ap (λ (x : Bool). one x (used (board_of rows))) b

abbrev pub more : ℕ → ℕ → ℕ
more answer n = pick (eqb answer 0) (suc n) n

pub enrol-used : (rows after : List Row) (settings address gauge answer : ℕ) → Enrolled rows settings address gauge answer after → used (board_of after) ≡ more answer (used (board_of rows))
enrol-used rows after settings address gauge answer (not-enrolled z e) = ap (λ (zs : List Row). used (board_of zs)) e ∙ sym (ap (λ (t : Bool). pick t (suc (used (board_of rows))) (used (board_of rows))) z)
enrol-used rows after settings address gauge answer (took z a u p e) =
    counts rows after (place_free (board_of rows)) (new_row settings address gauge) p.place e true false p.free refl ∙ sym (ap (λ (n : ℕ). more n (used (board_of rows))) z)

pub hear-used : (rows after : List Row) (minute address count : ℕ) (reply : List ℕ) (answer : Heard) → HearDone rows minute address count reply answer after → used (board_of after) ≡ used (board_of rows)
hear-used rows after minute address count reply answer (not-heard z l e) = ap (λ (zs : List Row). used (board_of zs)) e
hear-used rows after minute address count reply answer (faulty l a p e n) =
    let f = used-not-free (is_free (row_at rows (place_of address (board_of rows)))) p.here.used in
    let s = counts rows after _ _ p.place e false false f f in
    omega arith
hear-used rows after minute address count reply answer (good z a p g e) =
    let f = used-not-free (is_free (row_at rows (place_of address (board_of rows)))) p.here.used in
    let s = counts rows after _ _ p.place e false false f f in
    omega arith

pub remove-used : (rows after : List Row) (address answer : ℕ) → Removed rows address answer after → more answer (used (board_of after)) ≡ used (board_of rows)
remove-used rows after address answer (not_removed z e) = ap (λ (t : Bool). pick t (suc (used (board_of after))) (used (board_of after))) z ∙ ap (λ (zs : List Row). used (board_of zs)) e
remove-used rows after address answer (gave z a p e) =
    ap (λ (n : ℕ). more n (used (board_of after))) z ∙ counts rows after (place_of address (board_of rows)) free_row p.place e false true (used-not-free (is_free (row_at rows (place_of address (board_of rows)))) p.here.used) refl

more_by : (t : Bool) (n g k : ℕ) → n + g ≡ k → pick t (suc n) n + g ≡ pick t (suc k) k
more_by true n g k e = omega arith
more_by false n g k e = e

fewer-by : (t : Bool) (m n g k : ℕ) → pick t (suc m) m ≡ n → n + g ≡ k → m + pick t (suc g) g ≡ k
fewer-by true m n g k e f = omega arith
fewer-by false m n g k e f = omega arith

-- the rows in use and those given back are together those taken
pub call-balance : (rows : List Row) (c : Call) (answer : Answer c) (after : List Row) → Does as_it_was rows c answer after → (g k : ℕ) → used (board_of rows) + g ≡ k → used (board_of after) + given_by c answer g ≡ taken_by c answer k
call-balance rows (enrol settings address gauge) answer after e g k b =
    ap (λ (n : ℕ). n + g) (enrol-used rows after settings address gauge answer (enrol-done rows settings address gauge answer after e)) ∙ more_by (eqb answer 0) (used (board_of rows)) g k b
call-balance rows (hear minute address count reply) answer after e g k b =
    ap (λ (n : ℕ). n + g) (hear-used rows after minute address count reply answer (hear-done rows minute address count reply answer after e)) ∙ b
call-balance rows (remove address) answer after e g k b =
    fewer-by (eqb answer 0) (used (board_of after)) (used (board_of rows)) g k (remove-used rows after address answer (remove-done rows address answer after e)) b
call-balance rows (look_up address) answer after e g k b = ap (λ (zs : List Row). used (board_of zs) + g) e.1 ∙ b
call-balance rows (poll address raise reset out) answer after e g k b = ap (λ (zs : List Row). used (board_of zs) + g) e.1 ∙ b

balance : (start now : List Row) → Empty start → (h : History as_it_was start now) → used (board_of now) + given h ≡ rows_taken h
unfolding rows_taken given
balance start now empty begun = let z = used-none (board_of start) (λ i l. ap is_free (same_row start i l) ∙ empty i (board-on start i l)) in omega arith
balance start now empty (called {rows} c answer h e) = call-balance rows c answer now e (given h) (rows_taken h) (balance start rows empty h)

-- A new address, while there is room, and when the board is full.
module _ (start rows after : List Row) (h : History as_it_was start rows) (settings address gauge answer : ℕ) (empty : Empty start) (s : settings ≤ 15) (a : address ≤ 999) (m : profile_misplaced settings gauge ≡ false) (u : Unknown rows address) (e : Enrols rows settings address gauge answer after) where
  size : length (board_of rows) ≡ min 30 (length start)
  size = length-take 30 rows ∙ ap (λ (n : ℕ). min 30 n) (as_many start rows h)

  room : rows_taken h < given h + min 30 (length start) → answer ≡ 0
  room l =
      by-lt (place_free (board_of rows)) (length (board_of rows)) (λ f. e.answers ∙ enrol-0 (board_of rows) settings address gauge s a m (unknown-off rows address u) f)
      (λ f. absurd (omega (arith, balance start rows empty h, used-full (board_of rows) f, size)))

  full : given h + min 30 (length start) ≤ rows_taken h → answer ≡ 19
  full l =
      by-lt (place_free (board_of rows)) (length (board_of rows)) (λ f. absurd (omega (arith, balance start rows empty h, used-room (board_of rows) f, size)))
      (λ f. e.answers ∙ enrol-19 (board_of rows) settings address gauge s a m (unknown-off rows address u) f)

pub board-history : BoardHistory as_it_was
board-history = record { none-twice = none-twice; as_many = as_many; beyond = beyond-stays; room = room; full = full }
