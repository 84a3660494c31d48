-- How long has it been bad. Both laws over histories go by induction on the history, latest call first, with what a look tells before the call and after
-- it (`Readings`): a call of another address leaves the look, an enrolment starts it, a hearing that reached the row counts or clears, and after a
-- removal there is no row of the address, since none was there twice.
use mathlib.Core.Path.{◌≡◌, refl, sym, ◌∙◌, ap, subst}
use mathlib.Core.Bool.{Bool, true, false, not, ◌&&◌, ◌||◌}
use mathlib.Core.List.{List}
use Prim.Native.Nat.{ℕ, suc, ◌+◌, ◌≤◌, min}
use native.Mathlib.Omega.{arith}
use lib.Dec.{eqb, ltb}
use lib.ListN.{length}
use borrow.Author.Tests.{eqb-true, eqb-false, ltb-true, ltb-false}
use Rattle.frame.specs.Pick.{pick}
use Rattle.board.specs.declared.Heard.{Heard}
use Rattle.board.specs.declared.Looked.{Looked}
use Rattle.board.specs.declared.Row.{Row}
use Rattle.board.specs.Row.{is_free, is_in_use, free_row, new_row, sets_fault, more, Minute, never, at}
use Rattle.board.specs.Rows.{board_of, place_of}
use Rattle.board.specs.Calls.{heard_as, looked_at, minute_told}
use Rattle.promises_order.specs.OldBoard.{OldEnrols as Enrols, OldHears as Hears, OldRemoves as Removes, OldLooksUp as LooksUp}
use Rattle.board.proofs.Faults.{sets-some, not-0}
use Rattle.promises_order.specs.Places.{row_at, OnBoard, Empty}
use Rattle.promises_board.specs.Calls.{Holds, IsRowOf, Unknown, OnlyRow}
use Rattle.promises_order.specs.Calls.{as_it_was, Call, enrol, hear, remove, look_up, poll, Answer, Does}
use Rattle.promises_board.specs.History.{History, begun, called, NoneTwice}
use Rattle.promises_board.specs.Since.{since_by, latest_by, faults_since, since, latest, BoardSince}
use Rattle.promises_frame.proofs.Cases.{by-lt}
use Rattle.promises_board.proofs.Places.{place-row}
use Rattle.promises_board.proofs.Done.{set-only, off-unknown, Enrolled, not-enrolled, took, enrol-done, Removed, not_removed, gave, remove-done, HearDone, not-heard, faulty, good, hear-done}
use Rattle.promises_board.proofs.Readings.{looked-row, looked-unknown, looked-bad, board-readings}
use Rattle.promises_board.proofs.History.{none-twice}
use Rattle.promises_board.proofs.EitherOrder.{either_order}

differs : {b : Bool} → b ≡ true → b ≡ false → ⊥
differs e f = let z : ◌≡◌ {A = Bool} true false = sym e ∙ f in let bad : ◌≡◌ {A = ℕ} 0 1 = cc in omega arith

pub free-not-used : (row : Row) → is_free row ≡ true → is_in_use row ≡ true → ⊥
free-not-used row f u = differs u (ap not f)

-- A look that refused nothing was at the row of the address.
module _ (rows : List Row) (address : ℕ) (told : Looked) (e : LooksUp rows address told) where
  known_by : told.number ≡ 0 → (address ≤ 999) × IsRowOf rows address (place_of address (board_of rows))
  known_by z =
      by-lt 999 address (λ a. let bad : ◌≡◌ {A = ℕ} 11 0 = sym (ap (λ (t : Looked). t.number) (looked-bad rows address told e a)) ∙ z in absurd (omega arith))
      (λ a. by-lt (place_of address (board_of rows)) (length (board_of rows)) (λ l. (a, place-row rows address l))
      (λ l. let bad : ◌≡◌ {A = ℕ} 17 0 = sym (ap (λ (t : Looked). t.number) (looked-unknown rows address told e a (off-unknown rows address l))) ∙ z in absurd (omega arith)))

-- Where an address did not stand twice and its row was set free, no row holds it.
pub gone-after : (rows after : List Row) (a i : ℕ) → NoneTwice rows → IsRowOf rows a i → OnlyRow rows i free_row after → Unknown after a
gone-after rows after a i once p only j on held = go (eqb j i) refl
  where
    go : (t : Bool) → eqb j i ≡ t → ⊥
    go true t = free-not-used (row_at after j) (ap is_free (ap (row_at after) (eqb-true j i t) ∙ only.own)) held.used
    go false t =
        let ne = eqb-false j i t in
        ne (once j i a (record { counts = on.counts; lent = omega (arith, on.lent, only.as_many) }) p.place (subst (λ (r : Row). Holds r a) (only.others j ne) held) p.here)

-- The look at an address.
abbrev look : List Row → ℕ → Looked
look rows address = looked_at (board_of rows) address

look_is : (rows : List Row) (address : ℕ) → LooksUp rows address (look rows address)
look_is rows address = record { answers = refl }

-- What a look tells of the history so far.
abbrev Told : (rows : List Row) → (ℕ → ℕ) → (ℕ → Minute) → Type 0
Told rows count minute = (address : ℕ) (told : Looked) → LooksUp rows address told → told.number ≡ 0 → (told.faulty ≡ min 65535 (count address)) × (minute_told told ≡ minute address)

-- one more, and never past the end
one_more : (n : ℕ) → more (min 65535 n) ≡ min 65535 (suc n)
one_more n = go (ltb (min 65535 n) 65535) refl
  where
    go : (t : Bool) → ltb (min 65535 n) 65535 ≡ t → pick t (min 65535 n + 1) 65535 ≡ min 65535 (suc n)
    go true e = let l = ltb-true (min 65535 n) 65535 e in omega arith
    go false e = let l = ltb-false (min 65535 n) 65535 e in omega arith

nonzero : (n : ℕ) → 1 ≤ n → eqb n 0 ≡ false
nonzero n l = go (eqb n 0) refl
  where
    go : (t : Bool) → eqb n 0 ≡ t → t ≡ false
    go true e = absurd (omega (arith, eqb-true n 0 e))
    go false e = refl

-- Each call.
module _ (rows after : List Row) (count : ℕ → ℕ) (minute : ℕ → Minute) (so : Told rows count minute) where
  -- a look that stays says what it said
  stays : (address : ℕ) (told : Looked) → told ≡ look rows address → told.number ≡ 0 → (told.faulty ≡ min 65535 (count address)) × (minute_told told ≡ minute address)
  stays address told same z =
      let before = so address (look rows address) (look_is rows address) (sym (ap (λ (t : Looked). t.number) same) ∙ z) in
      (ap (λ (t : Looked). t.faulty) same ∙ before.0, ap minute_told same ∙ before.1)

  unmoved : after ≡ rows → Told after count minute
  unmoved e = subst (λ (zs : List Row). Told zs count minute) (sym e) so

  enrol-so : (settings a gauge answer : ℕ) → Enrols rows settings a gauge answer after
      → Told after (λ address. pick (eqb a address && eqb answer 0) 0 (count address)) (λ address. pick (eqb a address && eqb answer 0) never (minute address))
  enrol-so settings a gauge answer e address told looks z = go (eqb a address) refl (eqb answer 0) refl
    where
      here : a ≡ address → answer ≡ 0 → (told.faulty ≡ 0) × (minute_told told ≡ never)
      here same none =
          let s = board-readings.started rows after settings address gauge told (subst (λ (n : ℕ). Enrols rows settings address gauge n after) none (subst (λ (x : ℕ). Enrols rows settings x gauge answer after) same e)) looks in
          (s.5, s.6)

      kept : eqb answer 0 ≡ false → Enrolled rows settings a gauge answer after → (told.faulty ≡ min 65535 (count address)) × (minute_told told ≡ minute address)
      kept f (not-enrolled s is) = unmoved is address told looks z
      kept f (took s x u p is) = absurd (eqb-false answer 0 f s)

      go : (s : Bool) → eqb a address ≡ s → (t : Bool) → eqb answer 0 ≡ t → (told.faulty ≡ min 65535 (pick (s && t) 0 (count address))) × (minute_told told ≡ pick (s && t) never (minute address))
      go true s true t = let h = here (eqb-true a address s) (eqb-true answer 0 t) in (h.0 ∙ omega arith, h.1)
      go true s false t = kept t (enrol-done rows settings a gauge answer after e)
      go false s t f = stays address told (board-readings.enrol_apart rows after settings address gauge a answer (look rows address) told (eqb-false a address s) (look_is rows address) e looks) z

  remove-so : NoneTwice rows → (a answer : ℕ) → Removes rows a answer after → Told after count minute
  remove-so once a answer e address told looks z = go (eqb a address) refl
    where
      by : Removed rows a answer after → a ≡ address → (told.faulty ≡ min 65535 (count address)) × (minute_told told ≡ minute address)
      by (not_removed s is) same = unmoved is address told looks z
      by (gave s x p is) same =
          let only = set-only rows after (place_of a (board_of rows)) free_row p.place is in
          let k = (known_by after address told looks z).1 in
          absurd (gone-after rows after a (place_of a (board_of rows)) once p only (place_of address (board_of after)) k.place (subst (Holds (row_at after (place_of address (board_of after)))) (sym same) k.here))

      go : (s : Bool) → eqb a address ≡ s → (told.faulty ≡ min 65535 (count address)) × (minute_told told ≡ minute address)
      go true s = by (remove-done rows a answer after e) (eqb-true a address s)
      go false s = stays address told (board-readings.remove_apart rows after address a answer (look rows address) told (eqb-false a address s) (look_is rows address) e looks) z

  -- what a look tells after a hearing of its address, by whether the reply was good and whether its fault is set
  abbrev Says : ℕ → ℕ → Looked → Bool → Bool → Type 0
  Says m address told none set = (told.faulty ≡ min 65535 (pick none 0 (pick set (suc (count address)) (count address)))) × (minute_told told ≡ pick (none || set) (at m) (minute address))

  hear-own : (m address k : ℕ) (y : List ℕ) (answer : Heard) (told : Looked) → Hears rows m address k y answer after → LooksUp after address told → told.number ≡ 0 → HearDone rows m address k y answer after
      → Says m address told (eqb answer.number 0) (sets_fault answer.number)
  hear-own m address k y answer told e looks z (not-heard n f is) = rw (n, f) (unmoved is address told looks z)
  hear-own m address k y answer told e looks z (good n x p f is) =
      let hears : Hears rows m address k y (heard_as 0 answer.place) after = subst (λ (h : Heard). Hears rows m address k y h after) (ap (λ (i : ℕ). heard_as i answer.place) n) e in
      let g = board-readings.heard rows after m address k answer.place y told hears looks in
      rw n (g.3 ∙ omega arith, g.4)
  hear-own m address k y answer told e looks z (faulty f x p is w) =
      let before : Looked = look rows address in
      let g = board-readings.kept rows after m address k answer.number answer.place y before told f (look_is rows address) e looks in
      let found = ap (λ (t : Looked). t.number) (looked-row rows address before (look_is rows address) x (place_of address (board_of rows)) p) in
      let old = so address before (look_is rows address) found in
      rw (nonzero answer.number (sets-some answer.number f), f) (g.3 ∙ ap more old.0 ∙ one_more (count address), g.4)

  hear-so : (m a k : ℕ) (y : List ℕ) (answer : Heard) → Hears rows m a k y answer after
      → Told after (λ address. pick (eqb a address) (faults_since answer.number (count address)) (count address)) (λ address. pick (eqb a address && (eqb answer.number 0 || sets_fault answer.number)) (at m) (minute address))
  hear-so m a k y answer e address told looks z = go (eqb a address) refl
    where
      go : (s : Bool) → eqb a address ≡ s → (told.faulty ≡ min 65535 (pick s (faults_since answer.number (count address)) (count address))) × (minute_told told ≡ pick (s && (eqb answer.number 0 || sets_fault answer.number)) (at m) (minute address))
      go true s =
          let mine : Hears rows m address k y answer after = subst (λ (x : ℕ). Hears rows m x k y answer after) (eqb-true a address s) e in
          hear-own m address k y answer told mine looks z (hear-done rows m address k y answer after mine)
      go false s = stays address told (board-readings.hear_apart rows after m address a k y answer (look rows address) told (eqb-false a address s) (look_is rows address) e looks) z

  -- Any call.
  call-so : NoneTwice rows → (c : Call) (answer : Answer c) → Does as_it_was rows c answer after → Told after (λ address. since_by c answer address (count address)) (λ address. latest_by c answer address (minute address))
  call-so once (enrol settings a gauge) answer e = enrol-so settings a gauge answer e
  call-so once (hear m a k y) answer e = hear-so m a k y answer e
  call-so once (remove a) answer e = remove-so once a answer e
  call-so once (look_up a) answer e = subst (λ (zs : List Row). Told zs count minute) (sym e.1) so
  call-so once (poll a raise reset out) answer e = subst (λ (zs : List Row). Told zs count minute) (sym e.1) so

-- Over every history.
told_of : (start now : List Row) → Empty start → (h : History as_it_was start now) → Told now (since h) (latest h)
unfolding since latest
told_of start now empty begun = λ address told looks z.
    let k = (known_by start address told looks z).1 in
    absurd (free-not-used (row_at start (place_of address (board_of start))) (empty (place_of address (board_of start)) k.place) k.here.used)
told_of start now empty (called {rows} c answer h e) = call-so rows now (since h) (latest h) (told_of start rows empty h) (none-twice start rows empty h) c answer e

-- The count is 0 just where the fault is, of every row in use: each call sets at most one row, to one of which it holds.
record Agrees (row : Row) : Type 0 where
  none-faulty : row.faulty ≡ 0 → row.fault ≡ 0
  no-fault : row.fault ≡ 0 → row.faulty ≡ 0

abbrev AllAgree : List Row → Type 0
AllAgree rows = (i : ℕ) → OnBoard rows i → is_in_use (row_at rows i) ≡ true → Agrees (row_at rows i)

more-some : (n : ℕ) → more n ≡ 0 → ⊥
more-some n e = go (ltb n 65535) refl e
  where
    go : (t : Bool) → ltb n 65535 ≡ t → pick t (n + 1) 65535 ≡ 0 → ⊥
    go true f e = omega arith
    go false f e = omega arith

module _ (rows after : List Row) (so : AllAgree rows) where
  agree-set : (i : ℕ) (row : Row) → OnlyRow rows i row after → (is_in_use row ≡ true → Agrees row) → AllAgree after
  agree-set i row only new j on used = go (eqb j i) refl
    where
      go : (t : Bool) → eqb j i ≡ t → Agrees (row_at after j)
      go true t =
          let is : row_at after j ≡ row = ap (row_at after) (eqb-true j i t) ∙ only.own in
          subst Agrees (sym is) (new (sym (ap is_in_use is) ∙ used))
      go false t =
          let is : row_at after j ≡ row_at rows j = only.others j (eqb-false j i t) in
          subst Agrees (sym is) (so j (record { counts = on.counts; lent = omega (arith, on.lent, only.as_many) }) (sym (ap is_in_use is) ∙ used))

  agree_same : after ≡ rows → AllAgree after
  agree_same e = subst AllAgree (sym e) so

  agree-enrol : (settings a gauge answer : ℕ) → Enrolled rows settings a gauge answer after → AllAgree after
  agree-enrol settings a gauge answer (not-enrolled s e) = agree_same e
  agree-enrol settings a gauge answer (took s x u p e) = agree-set _ (new_row settings a gauge) (set-only rows after _ (new_row settings a gauge) p.place e) (λ _. record { none-faulty = λ _. refl; no-fault = λ _. refl })

  agree-hear : (m a k : ℕ) (y : List ℕ) (answer : Heard) → HearDone rows m a k y answer after → AllAgree after
  agree-hear m a k y answer (not-heard n f e) = agree_same e
  agree-hear m a k y answer (good n x p f e) = agree-set _ _ (set-only rows after _ _ p.place e) (λ _. record { none-faulty = λ _. refl; no-fault = λ _. refl })
  agree-hear m a k y answer (faulty f x p e w) =
      agree-set _ _ (set-only rows after _ _ p.place e)
      (λ _. record { none-faulty = λ z. absurd (more-some (row_at rows (place_of a (board_of rows))).faulty z); no-fault = λ z. absurd (differs (sym (ap sets_fault z) ∙ f) not-0) })

  agree-remove : (a answer : ℕ) → Removed rows a answer after → AllAgree after
  agree-remove a answer (not_removed s e) = agree_same e
  agree-remove a answer (gave s x p e) = agree-set _ free_row (set-only rows after _ free_row p.place e) (λ u. absurd (free-not-used free_row refl u))

  agree-call : (c : Call) (answer : Answer c) → Does as_it_was rows c answer after → AllAgree after
  agree-call (enrol settings a gauge) answer e = agree-enrol settings a gauge answer (enrol-done rows settings a gauge answer after e)
  agree-call (hear m a k y) answer e = agree-hear m a k y answer (hear-done rows m a k y answer after e)
  agree-call (remove a) answer e = agree-remove a answer (remove-done rows a answer after e)
  agree-call (look_up a) answer e = agree_same e.1
  agree-call (poll a raise reset out) answer e = agree_same e.1

agree_of : (start now : List Row) → Empty start → History as_it_was start now → AllAgree now
agree_of start now empty begun = λ i on used. absurd (free-not-used (row_at start i) (empty i on) used)
agree_of start now empty (called {rows} c answer h e) = agree-call rows now (agree_of start rows empty h) c answer e

pub board-since : BoardSince as_it_was
board-since =
    record {
      count-and-fault = λ start rows empty h i on used. let a = agree_of start rows empty h i on used in (a.none-faulty, a.no-fault);
      counted_since = λ start rows empty h address told looks z. (told_of start rows empty h address told looks z).0;
      latest_heard = λ start rows empty h address told looks z. (told_of start rows empty h address told looks z).1;
      either_order = either_order;
    }
