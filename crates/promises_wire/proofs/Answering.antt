-- Turn by turn: a call that drew leaves a state that means itself, so a call that hears then listens, or takes nothing. While a reading is sent by the transmitter whose turn
-- it is, it goes on, or hears all of it; so what stands of that row are just the samples that were sent, and of these its poll says the reading.
use mathlib.Core.Path.{◌≡◌, refl, sym, ap, subst, ◌∙◌}
use mathlib.Core.Bool.{Bool, true, false, not, ◌||◌}
use mathlib.Core.List.{List, [], ◌∷◌, ◌++◌, append-nil}
use Prim.Native.Nat.{ℕ, suc, ◌+◌, ◌<◌, ◌≤◌}
use native.Mathlib.Omega.{arith}
use borrow.Author.Tests.{eqb-true, eqb-false}
use lib.Dec.{eqb}
use lib.ListN.{length, take}
use Rattle.frame.specs.Pick.{pick}
use Rattle.board.specs.declared.Row.{Row}
use Rattle.board.specs.Rows.{board_of}
use Rattle.polling.specs.declared.Begun.{Begun}
use Rattle.polling.specs.declared.Pace.{Pace}
use Rattle.polling.specs.declared.Polling.{Polling}
use Rattle.polling.specs.Settling.{LeftByHearing}
use Rattle.polling.specs.Pace.{bad_pace}
use Rattle.polling.specs.Beginning.{used_rows}
use Rattle.polling.specs.Meant.{is_over, draws, meant}
use Rattle.polling.specs.Drawing.{drawn_by, after_drawn}
use Rattle.polling.specs.Calls.{BeginsPolling, heard_by, HearsPolling}
use Rattle.promises_polling.proofs.Meaning.{Mode, over, drawing, drawn, listening, mode, again}
use Rattle.promises_polling.proofs.Drawn.{leaves}
use Rattle.promises_polling.proofs.Heard.{heard-so, heard-over, heard-drawing}
use Rattle.promises_wire.specs.Polls.{Poll}
use Rattle.promises_wire.specs.Wire.{samples_of, Sent}
use Rattle.promises_wire.specs.Running.{Stood, stood_by, Running, just_begun, heard, Enrolled, PollOf, InStep, none_in_step, one_in_step, RanSo}
use Rattle.promises_wire.specs.Running as running
use Rattle.promises_wire.specs.TankToDesk.{SaysSo}
use Rattle.promises_wire.specs.InTime.{InTime, SentBy, OnItsWay, Listens}
use Rattle.promises_wire.specs.AnyBatches.{SentToAll, none_sent, one_sent, AllSay, none_says, one_says, Turns, no_turn, one_turn, Sends, part, whole, After, at-once, one_later, SendsInTurns, Answering}
use Rattle.promises_wire.proofs.InTime.{settled-so, says-in-time, said-in-time}

-- The one after so many others.
below : {A : Type 0} {l : List A} {i : ℕ} {x : A} → After l i x → i < length l
below at-once = omega arith
below (one_later more) = let h = below more in omega (arith, h)

pub same_after : {A : Type 0} {l : List A} {i j : ℕ} {x y : A} → After l i x → After l j y → i ≡ j → x ≡ y
same_after at-once at-once e = refl
same_after at-once (one_later b) e = absurd (omega (arith, e))
same_after (one_later a) at-once e = absurd (omega (arith, e))
same_after (one_later a) (one_later b) e = same_after a b (omega (arith, e))

still_after : {A : Type 0} {l : List A} (m : List A) {i : ℕ} {x : A} → After l i x → After (l ++ m) i x
still_after m at-once = at-once
still_after m (one_later a) = one_later (still_after m a)

-- It is among those before the last, or the last.
last-or-before : {A : Type 0} (l : List A) (z : A) {i : ℕ} {x : A} {P : Type 0} → After (l ++ z ∷ []) i x → (After l i x → P) → (i ≡ length l → x ≡ z → P) → P
last-or-before [] z at-once f g = g refl refl
last-or-before [] z (one_later a) f g = let h = below a in absurd (omega (arith, h))
last-or-before (y ∷ l) z at-once f g = f at-once
last-or-before (y ∷ l) z (one_later a) f g = last-or-before l z a (λ c. f (one_later c)) (λ e c. g (ap suc e) c)

-- A poll, with its row and with what stood.
record PollAt (p : Pace) (rows : List Row) (ys : List Stood) (i : ℕ) (q : Poll) : Type 0 where
  row : Row
  stood : Stood
  row_at : After rows i row
  stood_at : After ys i stood
  its : PollOf p row stood q

poll-at : {p : Pace} {rows : List Row} {ys : List Stood} {qs : List Poll} {i : ℕ} {q : Poll} → InStep p rows ys qs → After qs i q → PollAt p rows ys i q
poll-at none_in_step after = elim after [ ]
poll-at (one_in_step row y q its others) at-once = record { row = row; stood = y; row_at = at-once; stood_at = at-once; its = its }
poll-at (one_in_step row y q its others) (one_later a) =
    let r = poll-at others a in
    record { row = r.row; stood = r.stood; row_at = one_later r.row_at; stood_at = one_later r.stood_at; its = r.its }

-- A call that drew leaves a state that means itself.
pub drawn-itself : (p : Pace) (w : Polling) (k : ℕ) → meant p (after_drawn p w k) ≡ after_drawn p w k
unfolding after_drawn
drawn-itself p w k = go (is_over w || not (eqb w.listening 0))
  where
    go : (b : Bool) → meant p (pick b (meant p w) (meant p (draws w (w.passed + k)))) ≡ pick b (meant p w) (meant p (draws w (w.passed + k)))
    go true = again p w
    go false = again p (draws w (w.passed + k))

pub turns-run : {p : Pace} {from : Polling} {n : ℕ} {ys : List Stood} {since : List ℕ} {w : Polling} → Turns p from n ys since w → Running p from ys since w
turns-run no_turn = just_begun
turns-run (one_turn out after d minute samples a t room draw some fits hear) = heard minute samples a fits (running.drew out after d (turns-run t) draw) hear

-- One transmitter, after so many others.
module _ (p : Pace) (fine : bad_pace p ≡ false) (rows : List Row) (minute : ℕ) (b : Begun) (begins : BeginsPolling rows minute b) (accepted : b.number ≡ 0)
    (ok : Enrolled (used_rows (board_of rows))) (i : ℕ) (x : Sent) (timely : InTime p x) where
  abbrev StoodSo : List Stood → Type 0
  StoodSo zs = (y : Stood) → After zs i y → y.samples ≡ samples_of x.drawing

  -- One turn, heard from a state that means itself.
  module _ (ys : List Stood) (since : List ℕ) (v : Polling) (run : Running p b.polling ys since v) (itself : meant p v ≡ v) (now : ℕ) (samples : List ℕ) (a : LeftByHearing)
      (hear : HearsPolling v p now samples a) (before : StoodSo ys) where
    way : OnItsWay p rows ys since v
    way = record { enrolled = ok; minute = minute; begun = b; begins = begins; accepted = accepted; paced = fine; calls = run }

    abbrev new : Stood
    new = record { minute = now; samples = since ++ take a.taken samples }

    one_more : (length ys ≡ i → since ++ take a.taken samples ≡ samples_of x.drawing) → StoodSo (ys ++ stood_by a now samples since)
    one_more h = go (eqb a.answered 0)
      where
        go : (c : Bool) → StoodSo (ys ++ pick c [] (new ∷ []))
        go true = subst StoodSo (sym (append-nil ys)) before
        go false = λ y at. last-or-before ys new at (before y) (λ e f. ap (λ (s : Stood). s.samples) f ∙ h (sym e))

    none_more : a.answered ≡ 0 → StoodSo (ys ++ stood_by a now samples since)
    none_more e = subst StoodSo (sym (ap (λ (k : ℕ). ys ++ pick (eqb k 0) [] (new ∷ [])) e ∙ append-nil ys)) before

    sent-now : Listens v → Sends x since samples → StoodSo (ys ++ stood_by a now samples since)
    sent-now on (part rest is some) = none_more (said-in-time.goes_on p rows ys since v way on x timely samples rest is some now a hear).answered
    sent-now on (whole more is) = one_more (λ e. (settled-so p rows ys since v way on now samples a hear x timely more is).1)

    after_turn : (Listens v → length ys ≡ i → Sends x since samples) → StoodSo (ys ++ stood_by a now samples since)
    after_turn sends = go (mode p v)
      where
        answer : a ≡ heard_by p now (meant p v) samples
        answer = heard-so p fine v now samples a hear

        by_turn : Listens v → (c : Bool) → eqb (length ys) i ≡ c → StoodSo (ys ++ stood_by a now samples since)
        by_turn on true f = sent-now on (sends on (eqb-true (length ys) i f))
        by_turn on false f = one_more (λ e. absurd (eqb-false (length ys) i f e))

        go : Mode p v → StoodSo (ys ++ stood_by a now samples since)
        go (over e m) = none_more (ap (λ (c : LeftByHearing). c.answered) (answer ∙ heard-over p now (meant p v) samples (ap is_over m ∙ e)))
        go (drawing e z l m) =
            none_more
            (ap (λ (c : LeftByHearing). c.answered) (answer ∙ heard-drawing p now (meant p v) 0 samples (ap is_over m ∙ e) (ap (λ (u : Polling). u.listening) m)))
        go (drawn e z l m) = absurd (let on : v.listening ≡ 1 = ap (λ (u : Polling). u.listening) (sym itself ∙ m) in omega (arith, z, on))
        go (listening e z m) = by_turn (e, z) (eqb (length ys) i) refl

  stood-so : {n : ℕ} {ys : List Stood} {since : List ℕ} {w : Polling} (t : Turns p b.polling n ys since w) → SendsInTurns i x t → StoodSo ys
  stood-so no_turn sends = λ y at. let h = below at in absurd (omega (arith, h))
  stood-so (one_turn {ys = ys} {since = since} {w = w} out after d now samples a t room draw some fits hear) sends =
      let left : d.polling ≡ after_drawn p w (length (drawn_by p w (length out))) = leaves p fine w out after d draw in
      let itself : meant p d.polling ≡ d.polling = ap (meant p) left ∙ drawn-itself p w (length (drawn_by p w (length out))) ∙ sym left in
      after_turn ys since d.polling (running.drew out after d (turns-run t) draw) itself now samples a hear (stood-so t sends.0) sends.1

  pub it-says : (row : Row) → After (used_rows (board_of rows)) i row → SentBy row.settings row.address x
      → {n : ℕ} {ys : List Stood} {since : List ℕ} {w : Polling} (t : Turns p b.polling n ys since w) → SendsInTurns i x t
      → (ran : RanSo p rows ys w) (q : Poll) → After ran.polls i q → SaysSo x q
  it-says row at by t sends ran q poll =
      let r = poll-at ran.in_step poll in
      let there : After (used_rows (board_of rows)) i r.row = subst (λ (l : List Row). After l i r.row) (sym ran.used) (still_after ran.left r.row_at) in
      says-in-time p r.row r.stood q r.its x timely (subst (λ (z : Row). SentBy z.settings z.address x) (same_after at there refl) by)
      (stood-so t sends r.stood r.stood_at)

-- All of them.
pub sent-enrolled : (p : Pace) {rows : List Row} {xs : List Sent} → SentToAll p rows xs → Enrolled rows
sent-enrolled p none_sent = omega arith
sent-enrolled p (one_sent row x timely by more) =
    (subst (λ (n : ℕ). n ≤ 15) by.0 x.asked.settings_in, subst (λ (n : ℕ). n ≤ 999) by.1 x.asked.address_in, sent-enrolled p more)

record SentAt (p : Pace) (rows : List Row) (i : ℕ) (x : Sent) : Type 0 where
  row : Row
  row_at : After rows i row
  timely : InTime p x
  by : SentBy row.settings row.address x

sent-at : {p : Pace} {rows : List Row} {xs : List Sent} {i : ℕ} {x : Sent} → SentToAll p rows xs → After xs i x → SentAt p rows i x
sent-at none_sent after = elim after [ ]
sent-at (one_sent row x timely by more) at-once = record { row = row; row_at = at-once; timely = timely; by = by }
sent-at (one_sent row x timely by more) (one_later a) =
    let r = sent-at more a in record { row = r.row; row_at = one_later r.row_at; timely = r.timely; by = r.by }

pub timely-at : {p : Pace} {rows : List Row} {xs : List Sent} {i : ℕ} {x : Sent} → SentToAll p rows xs → After xs i x → InTime p x
timely-at sent at = (sent-at sent at).timely

all_say : {p : Pace} {rows : List Row} {xs : List Sent} {ys : List Stood} {qs : List Poll} → SentToAll p rows xs → InStep p rows ys qs
    → ((i : ℕ) (x : Sent) (q : Poll) → After xs i x → After qs i q → SaysSo x q) → AllSay xs qs
all_say none_sent none_in_step f = none_says
all_say (one_sent row x timely by more) (one_in_step r y q its others) f =
    one_says x q (f 0 x q at-once at-once) (all_say more others (λ i z s a c. f (suc i) z s (one_later a) (one_later c)))

pub they-say : (p : Pace) → bad_pace p ≡ false → (rows : List Row) (minute : ℕ) (b : Begun) → BeginsPolling rows minute b → b.number ≡ 0
    → (xs : List Sent) → SentToAll p (used_rows (board_of rows)) xs
    → (n : ℕ) (ys : List Stood) (since : List ℕ) (w : Polling) (t : Turns p b.polling n ys since w) → Answering xs t → is_over w ≡ true
    → (ran : RanSo p rows ys w) → AllSay xs ran.polls
they-say p fine rows minute b begins accepted xs sent n ys since w t answers o ran =
    all_say
    (subst (λ (l : List Row). SentToAll p l xs) (ran.used ∙ ap (λ (l : List Row). ran.done ++ l) (ran.over o).0 ∙ append-nil ran.done) sent)
    ran.in_step
    (λ i x q a c.
    let s = sent-at sent a in
    it-says p fine rows minute b begins accepted (sent-enrolled p sent) i x s.timely s.row s.row_at s.by t (answers i x a) ran q c)
