-- By any habit: a turn is a drawing, and then a batch of what is still to come of the reading, with idle behind it where the batch is longer. What is still to come is kept
-- from turn to turn; where a try begins it is the whole reading of the row after those whose replies stand, and there is one while the round is not over.
use mathlib.Core.Path.{◌≡◌, refl, sym, ap, subst, ◌∙◌}
use mathlib.Core.Bool.{Bool, true, false}
use mathlib.Core.List.{List, [], ◌∷◌, ◌++◌, append-nil, append_assoc}
use Prim.Native.Nat.{ℕ, zero, suc, ◌-◌, ◌<◌, ◌≤◌}
use native.Mathlib.Omega.{arith}
use lib.Dec.{eqb}
use lib.ListN.{length, take, drop, replicate, length-append, length-replicate, length-take, length-drop, take-append-drop}
use lib.Seq.{take-length}
use borrow.Author.Tests.{eq-eqb, ne_eqb}
use Rattle.frame.specs.Pick.{pick}
use Rattle.board.specs.declared.Row.{Row}
use Rattle.board.specs.Rows.{board_of}
use Rattle.lines.specs.SoFar.{rest_state}
use Rattle.polling.specs.declared.Begun.{Begun}
use Rattle.polling.specs.Drawing.{LeftByDrawing}
use Rattle.polling.specs.declared.Pace.{Pace}
use Rattle.polling.specs.declared.Polling.{Polling}
use Rattle.polling.specs.Settling.{LeftByHearing}
use Rattle.polling.specs.Pace.{bad_pace}
use Rattle.polling.specs.Beginning.{used_rows}
use Rattle.polling.specs.Meant.{is_over, meant}
use Rattle.polling.specs.Drawing.{drawn_by, after_drawn}
use Rattle.polling.specs.Settling.{settled_of}
use Rattle.polling.specs.Calls.{BeginsPolling, heard_by, HearsPolling}
use Rattle.promises_frame.proofs.Cases.{by-lt}
use Rattle.promises_polling.proofs.Meaning.{Mode, over, drawing, drawn, listening, mode}
use Rattle.promises_polling.proofs.Drawn.{leaves}
use Rattle.promises_polling.proofs.Heard.{heard-so, heard-over, heard-drawing, Some, some-taken}
use Rattle.promises_polling.proofs.Kept.{at-below}
use Rattle.promises_polling.proofs.Outcome.{polling-outcome}
use Rattle.promises_wire.specs.Polls.{Poll}
use Rattle.promises_wire.specs.Wire.{samples_of, Sent}
use Rattle.promises_wire.specs.Running.{Stood, since_after, stood_by, Running, InStep, none_in_step, one_in_step}
use Rattle.promises_wire.specs.Running as running
use Rattle.promises_wire.specs.InTime.{OnItsWay, Listens, GoesOn}
use Rattle.promises_wire.specs.AnyBatches.{SentToAll, none_sent, one_sent, no_turn, one_turn, Sends, part, whole, After, at-once, one_later, Habit, Batched}
use Rattle.promises_wire.proofs.Timely.{listens-to}
use Rattle.promises_wire.proofs.InTime.{so, settled-so, said-in-time}
use Rattle.promises_wire.proofs.Answering.{same_after, timely-at, sent-enrolled, drawn-itself, turns-run}

-- There is one after as many as are fewer than all.
one-after : (xs : List Sent) (i : ℕ) → i < length xs → (x : Sent) × After xs i x
one-after [] i h = absurd (omega (arith, h))
one-after (x ∷ xs) zero h = (x, at-once)
one-after (x ∷ xs) (suc i) h = let r = one-after xs i (omega (arith, h)) in (r.0, one_later r.1)

as-many-sent : {p : Pace} {rows : List Row} {xs : List Sent} → SentToAll p rows xs → length xs ≡ length rows
as-many-sent none_sent = refl
as-many-sent (one_sent row x timely by more) = ap suc (as-many-sent more)

as-many-stood : {p : Pace} {rows : List Row} {ys : List Stood} {qs : List Poll} → InStep p rows ys qs → length ys ≡ length rows
as-many-stood none_in_step = refl
as-many-stood (one_in_step row y q its others) = ap suc (as-many-stood others)

-- What is still to come.
data Coming (xs : List Sent) (ys : List Stood) (since : List ℕ) : Type 0 where
  nothing_yet : since ≡ [] → Coming xs ys since
  still : (x : Sent) (rest : List ℕ) → After xs (length ys) x → since ++ rest ≡ samples_of x.drawing → 1 ≤ length rest → Coming xs ys since

coming-moved : {xs : List Sent} {ys zs : List Stood} {since other : List ℕ} → ys ≡ zs → since ≡ other → Coming xs ys since → Coming xs zs other
coming-moved {xs} {ys} {zs} {since} {other} e f c = subst (λ (l : List ℕ). Coming xs zs l) f (subst (λ (l : List Stood). Coming xs l since) e c)

module _ (p : Pace) (fine : bad_pace p ≡ false) (rows : List Row) (minute : ℕ) (b : Begun) (begins : BeginsPolling rows minute b) (accepted : b.number ≡ 0)
    (xs : List Sent) (sent : SentToAll p (used_rows (board_of rows)) xs) where
  -- One turn, from a state that means itself.
  module _ (ys : List Stood) (since : List ℕ) (v : Polling) (run : Running p b.polling ys since v) (itself : meant p v ≡ v) (coming : Coming xs ys since) (now batch : ℕ) where
    way : OnItsWay p rows ys since v
    way = record { enrolled = sent-enrolled p sent; minute = minute; begun = b; begins = begins; accepted = accepted; paced = fine; calls = run }

    -- A batch, what is heard of it, and what is then still to come.
    record Heard : Type 0 where
      samples : List ℕ
      size : length samples ≡ suc batch
      sends : Listens v → (x : Sent) × After xs (length ys) x × Sends x since samples
      a : LeftByHearing
      hear : HearsPolling v p now samples a
      then : Coming xs (ys ++ stood_by a now samples since) (since_after a samples since)

    -- not listening
    quiet-turn : (Listens v → ⊥) → (samples : List ℕ) → length samples ≡ suc batch → (a : LeftByHearing) → HearsPolling v p now samples a → a.answered ≡ 0 → a.taken ≡ 0 → Heard
    quiet-turn off samples size a hear none zero-taken =
        record { samples = samples; size = size; sends = λ on. absurd (off on); a = a; hear = hear; then = go (eqb a.polling.listening 0) }
      where
        stood : ys ++ stood_by a now samples since ≡ ys
        stood = ap (λ (k : ℕ). ys ++ pick (eqb k 0) [] (record { minute = now; samples = since ++ take a.taken samples } ∷ [])) none ∙ append-nil ys

        kept : since ++ take a.taken samples ≡ since
        kept = ap (λ (k : ℕ). since ++ take k samples) zero-taken ∙ append-nil since

        go : (c : Bool) → Coming xs (ys ++ stood_by a now samples since) (pick c [] (since ++ take a.taken samples))
        go true = nothing_yet refl
        go false = coming-moved (sym stood) (sym kept) coming

    abbrev idle : List ℕ
    idle = replicate (suc batch) 0

    abbrev answer_to : List ℕ → LeftByHearing
    answer_to samples = (polling-outcome.hear v p now samples).some

    abbrev call_of : (samples : List ℕ) → HearsPolling v p now samples (answer_to samples)
    call_of samples = (polling-outcome.hear v p now samples).allowed

    -- listening: what is still to come
    module _ (on : Listens v) (x : Sent) (next : After xs (length ys) x) (rest : List ℕ) (is : since ++ rest ≡ samples_of x.drawing) (some : 1 ≤ length rest) where
      a-part : suc batch < length rest → Heard
      a-part less =
          let samples : List ℕ = take (suc batch) rest in
          let more : List ℕ = drop (suc batch) rest in
          let size : length samples ≡ suc batch = omega (arith, length-take (suc batch) rest, less) in
          let left : 1 ≤ length more = omega (arith, length-drop (suc batch) rest, less) in
          let all : since ++ samples ++ more ≡ samples_of x.drawing = append_assoc since samples more ∙ ap (λ (l : List ℕ). since ++ l) (take-append-drop (suc batch) rest) ∙ is in
          let a : LeftByHearing = answer_to samples in
          let g : GoesOn samples a = said-in-time.goes_on p rows ys since v way on x (timely-at sent next) samples more all left now a (call_of samples) in
          let stood : ys ++ stood_by a now samples since ≡ ys
          = ap (λ (k : ℕ). ys ++ pick (eqb k 0) [] (record { minute = now; samples = since ++ take a.taken samples } ∷ [])) g.answered ∙ append-nil ys in
          let sensed : since_after a samples since ≡ since ++ samples
          = ap (λ (c : Bool). pick c [] (since ++ take a.taken samples)) (ne_eqb a.polling.listening 0 g.listens.1)
          ∙ ap (λ (k : ℕ). since ++ take k samples) g.taken ∙ ap (λ (l : List ℕ). since ++ l) (take-length samples) in
          record {
            samples = samples;
            size = size;
            sends = λ o. (x, next, part more all left);
            a = a;
            hear = call_of samples;
            then = coming-moved (sym stood) (sym sensed) (still x more next all left);
          }

      all-of-it : length rest ≤ suc batch → Heard
      all-of-it long =
          let tail : List ℕ = replicate (suc batch - length rest) 0 in
          let samples : List ℕ = rest ++ tail in
          let size : length samples ≡ suc batch = omega (arith, length-append rest tail, length-replicate {A = ℕ} (suc batch - length rest) 0, long) in
          let all : since ++ samples ≡ samples_of x.drawing ++ tail = sym (append_assoc since rest tail) ∙ ap (λ (l : List ℕ). l ++ tail) is in
          let a : LeftByHearing = answer_to samples in
          let r = settled-so p rows ys since v way on now samples a (call_of samples) x (timely-at sent next) tail all in
          record {
            samples = samples;
            size = size;
            sends = λ o. (x, next, whole tail all);
            a = a;
            hear = call_of samples;
            then = nothing_yet (ap (λ (c : Bool). pick c [] (since ++ take a.taken samples)) (eq-eqb a.polling.listening 0 r.2));
          }

      a-batch : Heard
      a-batch = by-lt (suc batch) (length rest) a-part all-of-it

    -- a row is left while the round is not over
    row-left : Listens v → (x : Sent) × After xs (length ys) x
    row-left on =
        let h = (so p rows ys since v way on).round in
        let below = (at-below v on.0).0 in
        let stood = as-many-stood h.in_step in
        let all = as-many-sent sent in
        one-after xs (length ys) (omega (arith, below, stood, all, h.here, h.as_many, h.count))

    a_turn : Heard
    a_turn = go (mode p v)
      where
        quiet : (Listens v → ⊥) → (o : ℕ) → (w : Polling) → answer_to idle ≡ settled_of w 0 0 0 o 0 → Heard
        quiet off o w e =
            quiet-turn off idle (length-replicate (suc batch) 0) (answer_to idle) (call_of idle) (ap (λ (c : LeftByHearing). c.answered) e) (ap (λ (c : LeftByHearing). c.taken) e)

        listens-so : Listens v → Coming xs ys since → Heard
        listens-so on (still x rest next is some) = a-batch on x next rest is some
        listens-so on (nothing_yet none) =
            let r = row-left on in
            let x = r.0 in
            let t = listens-to p fine x (timely-at sent r.1) [] in
            a-batch on x r.1 (samples_of x.drawing) (ap (λ (l : List ℕ). l ++ samples_of x.drawing) none) (subst Some t.is (some-taken p rest_state 0 (samples_of x.drawing ++ [])))

        answer : answer_to idle ≡ heard_by p now (meant p v) idle
        answer = heard-so p fine v now idle (answer_to idle) (call_of idle)

        not-both : is_over v ≡ true → Listens v → ⊥
        not-both e on = let z : ◌≡◌ {A = Bool} true false = sym e ∙ on.0 in let y : ◌≡◌ {A = ℕ} 0 1 = cc in omega arith

        go : Mode p v → Heard
        go (over e m) = quiet (not-both e) 1 (meant p v) (answer ∙ heard-over p now (meant p v) idle (ap is_over m ∙ e))
        go (drawing e z l m) =
            quiet (λ on. on.1 z) 0 (meant p v) (answer ∙ heard-drawing p now (meant p v) 0 idle (ap is_over m ∙ e) (ap (λ (u : Polling). u.listening) m))
        go (drawn e z l m) = absurd (let one : v.listening ≡ 1 = ap (λ (u : Polling). u.listening) (sym itself ∙ m) in omega (arith, z, one))
        go (listening e z m) = listens-so (e, z) coming

  record So (h : Habit) (n : ℕ) : Type 0 where
    turns : Batched p b.polling xs h n
    coming : Coming xs turns.stood turns.since

  any-turns : (h : Habit) (n : ℕ) → So h n
  any-turns h zero =
      record {
        turns = record { stood = []; since = []; end = b.polling; turns = no_turn; answering = λ i x a. omega arith; by_such = omega arith };
        coming = nothing_yet refl;
      }
  any-turns h (suc n) =
      let before = any-turns h n in
      let t = before.turns in
      let w : Polling = t.end in
      let out : List ℕ = replicate (suc (h.room n)) 0 in
      let o = polling-outcome.draw w p out in
      let d : LeftByDrawing = o.some.0 in
      let after : List ℕ = o.some.1 in
      let left : d.polling ≡ after_drawn p w (length (drawn_by p w (length out))) = leaves p fine w out after d o.allowed in
      let itself : meant p d.polling ≡ d.polling = ap (meant p) left ∙ drawn-itself p w (length (drawn_by p w (length out))) ∙ sym left in
      let room : length out ≡ suc (h.room n) = length-replicate (suc (h.room n)) 0 in
      let r = a_turn t.stood t.since d.polling (running.drew out after d (turns-run t.turns) o.allowed) itself before.coming (h.minute n) (h.batch n) in
      record {
        turns = record {
          stood = t.stood ++ stood_by r.a (h.minute n) r.samples t.since;
          since = since_after r.a r.samples t.since;
          end = r.a.polling;
          turns = one_turn out after d (h.minute n) r.samples r.a t.turns (omega (arith, room)) o.allowed (omega (arith, r.size)) (h.fits n) r.hear;
          answering = λ i x a.
              (t.answering i x a, λ on e. let s = r.sends on in subst (λ (z : Sent). Sends z t.since r.samples) (same_after s.1 a e) s.2);
          by_such = (t.by_such, room, r.size, refl);
        };
        coming = r.then;
      }

  pub any-habit : (h : Habit) (n : ℕ) → Batched p b.polling xs h n
  any-habit h n = (any-turns h n).turns
