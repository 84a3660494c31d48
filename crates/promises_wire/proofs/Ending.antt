-- A round is run to its end by two calls for each try: one draws all that is left of its delay and poll, and one hears as many samples as a try may take, which settles it. A
-- row has at most `tries` tries, and each that is answered leaves one row fewer.
use mathlib.Core.Path.{◌≡◌, refl, sym, ap, ap₂, subst, ◌∙◌}
use mathlib.Core.Bool.{Bool, true, false, not, ◌||◌}
use mathlib.Core.List.{List, [], ◌∷◌, ◌++◌, append-nil, append_assoc}
use Prim.Native.Nat.{ℕ, zero, suc, ◌+◌, ◌^◌, ◌<◌, ◌≤◌}
use native.Mathlib.Omega.{arith}
use borrow.Author.Tests.{eq-eqb, leb-false}
use lib.Dec.{leb}
use lib.ListN.{length, take, drop, replicate, length-take, length-drop, length-replicate}
use Rattle.frame.specs.Pick.{pick}
use Rattle.frame.specs.Line.{mark}
use Rattle.lines.specs.declared.SoFar.{SoFar}
use Rattle.lines.specs.SoFar.{rest_state}
use Rattle.lines.specs.Step.{closes}
use Rattle.lines.specs.Hearing.{MessageTold, number_told}
use Rattle.lines.proofs.Cases.{none_of}
use Rattle.polling.specs.declared.Pace.{Pace}
use Rattle.polling.specs.declared.Polling.{Polling}
use Rattle.polling.specs.Settling.{LeftByHearing}
use Rattle.polling.specs.Pace.{timing_of, bad_pace}
use Rattle.polling.specs.Meant.{is_over, listens}
use Rattle.polling.specs.Drawing.{drawn_by}
use Rattle.polling.specs.Listening.{Listened, still_going, settled_by, listen}
use Rattle.polling.specs.Settling.{is_message, is_last, is_answered, asked_again, answered_with, settled_of, settled_at}
use Rattle.polling.specs.Calls.{heard_by, HearsPolling}
use Rattle.promises_lines.proofs.Legal.{rest}
use Rattle.promises_polling.proofs.Paces.{fine-pace}
use Rattle.promises_polling.proofs.Meaning.{try_of, meant-drawn, meant-listens}
use Rattle.promises_polling.proofs.Path.{silent_now}
use Rattle.promises_polling.proofs.Drawn.{busy-draws, leaves}
use Rattle.promises_polling.proofs.Heard.{heard-so, heard-listening}
use Rattle.promises_polling.proofs.Kept.{at-below}
use Rattle.promises_polling.proofs.Ears.{Outcome, open_yet, ended_at, outcome, going-last}
use Rattle.promises_polling.proofs.Outcome.{polling-outcome}
use Rattle.promises_wire.specs.Running.{Stood, since_after, stood_by, Running, heard}
use Rattle.promises_wire.specs.Running as running
use Rattle.promises_wire.proofs.Tries.{is_settled}
use Rattle.promises_wire.specs.ToTheEnd.{Comes, Enough, StandsFrom, none_stands, one_stands}

-- As many samples as a try may take settle it.
settles-it : (p : Pace) → bad_pace p ≡ false → (xs : List ℕ) → p.longest ≤ length xs → (left : SoFar) (k : ℕ) → listen p rest_state 0 xs ≡ still_going left k → ⊥
settles-it p fine xs long left k e = go (outcome p rest_state 0 xs)
  where
    some : 1 ≤ length xs
    some = let f = fine-pace p fine in let a = f.wait in let b = f.longest in omega (arith, a, b, long)

    go : Outcome p rest_state 0 xs (listen p rest_state 0 xs) → ⊥
    go (open_yet n g is) =
        let more = going-last p rest_state n 0 xs g some in
        let short = leb-false p.longest (0 + length xs) (none_of (closes (timing_of p) n || silent_now p n (0 + length xs)) (leb p.longest (0 + length xs)) more).1 in
        omega (arith, short, long)
    go (ended_at before x more n w g d is) = omega (arith, ap is_settled (sym e ∙ is))

-- The samples of a try that are taken.
abbrev pub taken_of : Stood → ℕ → Stood
taken_of s n = record { minute = s.minute; samples = take n s.samples }

module _ (p : Pace) (fine : bad_pace p ≡ false) (from : Polling) where
  -- The poll is drawn.
  polled : (xs : List Stood) (w : Polling) → Running p from xs [] w → is_over w ≡ false → w.listening ≡ 0 → Running p from xs [] (listens w rest_state 0)
  polled xs w r e z =
      let try : List ℕ = try_of p w in
      let out : List ℕ = replicate (length try) 0 in
      let o = polling-outcome.draw w p out in
      let b = busy-draws p w (ap₂ (λ (a b : Bool). a || not b) e (eq-eqb w.listening 0 z)) (length out) (length (drawn_by p w (length out))) in
      let many : length (drawn_by p w (length out)) ≡ length (take (length out) (drop w.passed try)) = ap length b.0 in
      let room : length out ≡ length try = length-replicate (length try) 0 in
      let least = length-take (length out) (drop w.passed try) in
      let after = length-drop w.passed try in
      let all : length try ≤ w.passed + length (drawn_by p w (length out)) = omega (arith, many, room, least, after) in
      let is : o.some.0.polling ≡ listens w rest_state 0
      = leaves p fine w out o.some.1 o.some.0 o.allowed ∙ b.1 ∙ meant-drawn p w (w.passed + length (drawn_by p w (length out))) e all in
      subst (Running p from xs []) is (running.drew out o.some.1 o.some.0 r o.allowed)

  -- A try.
  data TryEnds (xs : List Stood) (w : Polling) (s : Stood) : Type 0 where
    stands : (told : MessageTold) (n : ℕ) → listen p rest_state 0 s.samples ≡ settled_by told n
        → Running p from (xs ++ taken_of s n ∷ []) [] (answered_with s.minute told (listens w rest_state 0)) → TryEnds xs w s
    again : w.tried + 1 < p.tries → Running p from xs [] (asked_again (listens w rest_state 0)) → TryEnds xs w s

  try-ends : (xs : List Stood) (w : Polling) → Running p from xs [] w → is_over w ≡ false → w.listening ≡ 0 → (s : Stood) → s.minute < 2 ^ 32 → p.longest ≤ length s.samples
      → TryEnds xs w s
  unfolding settled_at
  try-ends xs w r e z s fits long = go (listen p rest_state 0 s.samples) refl
    where
      v : Polling
      v = listens w rest_state 0

      a : LeftByHearing
      a = (polling-outcome.hear v p s.minute s.samples).some

      call : HearsPolling v p s.minute s.samples a
      call = (polling-outcome.hear v p s.minute s.samples).allowed

      hears : a ≡ settled_at p s.minute v (listen p rest_state 0 s.samples)
      hears =
          heard-so p fine v s.minute s.samples a call ∙ ap (λ (u : Polling). heard_by p s.minute u s.samples) (meant-listens p w rest_state 0 e rest)
          ∙ heard-listening p s.minute w rest_state 0 s.samples e

      after : (b : LeftByHearing) → a ≡ b → Running p from (xs ++ stood_by b s.minute s.samples []) (since_after b s.samples []) b.polling
      after b is =
          subst (λ (c : LeftByHearing). Running p from (xs ++ stood_by c s.minute s.samples []) (since_after c s.samples []) c.polling) is
          (heard s.minute s.samples a fits (polled xs w r e z) call)

      by : (told : MessageTold) (n : ℕ) → listen p rest_state 0 s.samples ≡ settled_by told n → (b : Bool) → is_answered p v told ≡ b
          → a ≡ pick b (settled_of (answered_with s.minute told v) n w.at 1 (mark (is_over (answered_with s.minute told v))) (number_told told)) (settled_of (asked_again v) n w.at 0 0 (number_told told))
          → TryEnds xs w s
      by told n is true f answer = stands told n is (after _ answer)
      by told n is false f answer =
          again (leb-false p.tries (w.tried + 1) (none_of (is_message told) (is_last p v) f).1) (subst (λ (l : List Stood). Running p from l [] (asked_again v)) (append-nil xs) (after _ answer))

      go : (l : Listened) → listen p rest_state 0 s.samples ≡ l → TryEnds xs w s
      go (still_going left k) is = absurd (settles-it p fine s.samples long left k is)
      go (settled_by told n) is = by told n is (is_answered p v told) refl (hears ∙ ap (settled_at p s.minute v) is)

  -- A row's turn.
  record TurnEnds (xs : List Stood) (w : Polling) (comes : ℕ → Stood) : Type 0 where
    tried : ℕ
    told : MessageTold
    taken : ℕ
    few : tried < p.tries
    is : listen p rest_state 0 (comes tried).samples ≡ settled_by told taken
    end : Polling
    run : Running p from (xs ++ taken_of (comes tried) taken ∷ []) [] end
    at : end.at ≡ w.at + 1
    count : end.round.count ≡ w.round.count
    drawing : end.listening ≡ 0
    fresh : end.tried ≡ 0

  abbrev EnoughOf : (ℕ → Stood) → Type 0
  EnoughOf comes = (tried : ℕ) → ((comes tried).minute < 2 ^ 32) × (p.longest ≤ length (comes tried).samples)

  turn-ends : (f : ℕ) (xs : List Stood) (w : Polling) → Running p from xs [] w → is_over w ≡ false → w.listening ≡ 0 → w.tried < p.tries → p.tries ≤ w.tried + f
      → (comes : ℕ → Stood) → EnoughOf comes → TurnEnds xs w comes
  turn-ends zero xs w r e z few all comes enough = absurd (omega (arith, few, all))
  turn-ends (suc f) xs w r e z few all comes enough =
      go (try-ends xs w r e z (comes w.tried) (enough w.tried).0 (enough w.tried).1)
      (λ next more. turn-ends f xs (asked_again (listens w rest_state 0)) next e refl more (omega (arith, all)) comes enough)
    where
      go : TryEnds xs w (comes w.tried)
          → (Running p from xs [] (asked_again (listens w rest_state 0)) → w.tried + 1 < p.tries → TurnEnds xs (asked_again (listens w rest_state 0)) comes) → TurnEnds xs w comes
      go (stands told n is run) onward =
          record { tried = w.tried; told = told; taken = n; few = few; is = is; end = _; run = run; at = refl; count = refl; drawing = refl; fresh = refl }
      go (again more run) onward =
          let t = onward run more in
          record { tried = t.tried; told = t.told; taken = t.taken; few = t.few; is = t.is; end = t.end; run = t.run; at = t.at; count = t.count; drawing = t.drawing; fresh = t.fresh }

  -- All that is left of the round.
  pub record Ends (xs : List Stood) (comes : Comes) : Type 0 where
    pub stood : List Stood
    pub end : Polling
    pub run : Running p from (xs ++ stood) [] end
    pub over : is_over end ≡ true
    pub from-these : StandsFrom p comes stood

  already : (xs : List Stood) (w : Polling) → Running p from xs [] w → is_over w ≡ true → (comes : Comes) → Ends xs comes
  already xs w r e comes =
      record { stood = []; end = w; run = subst (λ (l : List Stood). Running p from l [] w) (sym (append-nil xs)) r; over = e; from-these = none_stands }

  pub round-ends : (g : ℕ) (xs : List Stood) (w : Polling) → Running p from xs [] w → w.listening ≡ 0 → w.tried < p.tries → w.round.count ≤ w.at + g
      → (comes : Comes) → Enough p comes → Ends xs comes
  round-ends zero xs w r z few all comes enough = go (is_over w) refl
    where
      go : (b : Bool) → is_over w ≡ b → Ends xs comes
      go true e = already xs w r e comes
      go false e = absurd (omega (arith, all, (at-below w e).0))
  round-ends (suc g) xs w r z few all comes enough =
      go (is_over w) refl (λ ys v run d more rest_of. round-ends g ys v run d more rest_of (λ row. comes (suc row)) (λ row. enough (suc row)))
    where
      go : (b : Bool) → is_over w ≡ b
          → ((ys : List Stood) (v : Polling) → Running p from ys [] v → v.listening ≡ 0 → v.tried < p.tries → v.round.count ≤ v.at + g → Ends ys (λ row. comes (suc row)))
          → Ends xs comes
      go true e onward = already xs w r e comes
      go false e onward =
          let t = turn-ends p.tries xs w r e z few (omega arith) (comes 0) (enough 0) in
          let s : Stood = taken_of (comes 0 t.tried) t.taken in
          let some = (fine-pace p fine).tries in
          let n = onward (xs ++ s ∷ []) t.end t.run t.drawing (omega (arith, t.fresh, some)) (omega (arith, all, t.at, t.count)) in
          record {
            stood = s ∷ n.stood;
            end = n.end;
            run = subst (λ (l : List Stood). Running p from l [] n.end) (append_assoc xs (s ∷ []) n.stood) n.run;
            over = n.over;
            from-these = one_stands s t.tried t.told t.taken t.few t.is refl refl n.from-these;
          }
