-- It ends: of each state a number of samples says how many may still come, those of the tries left and of this one. Every step of a way has one fewer left, so a way is no
-- longer than that number. That one of the two calls goes on is read off what a state means.
use mathlib.Core.Path.{◌≡◌, refl, sym, ap, ap₂, subst, ◌∙◌}
use mathlib.Core.Bool.{Bool, true, false, not, ◌||◌}
use mathlib.Core.List.{List, [], ◌∷◌}
use Prim.Native.Nat.{ℕ, zero, suc, ◌+◌, ◌-◌, ◌*◌, ◌<◌, ◌≤◌, min, max}
use native.Mathlib.Omega.{arith}
use native.Mathlib.Nat.{mul-le-mul_right}
use lib.Dec.{eqb, leb}
use lib.ListN.{length, drop, length-take, length-drop}
use borrow.Author.Tests.{eq-eqb, ne_eqb, leb-false}
use Rattle.frame.specs.Pick.{pick}
use Rattle.frame.specs.Line.{mark}
use Rattle.lines.specs.declared.SoFar.{SoFar}
use Rattle.lines.specs.SoFar as lines
use Rattle.lines.specs.SoFar.{rest_state}
use Rattle.lines.specs.Step.{closes}
use Rattle.lines.specs.Hearing.{MessageTold, number_told}
use Rattle.lines.proofs.Cases.{none_of, of-pick}
use Rattle.polling.specs.Drawing.{LeftByDrawing}
use Rattle.polling.specs.declared.Pace.{Pace}
use Rattle.polling.specs.declared.Polling.{Polling}
use Rattle.polling.specs.Settling.{LeftByHearing}
use Rattle.polling.specs.Pace.{timing_of, bad_pace}
use Rattle.polling.specs.Meant.{is_over, turn_of, try_drawn, draws, listens, meant}
use Rattle.polling.specs.Drawing.{drawn_by}
use Rattle.polling.specs.Listening.{Listened, still_going, settled_by, later, listen}
use Rattle.polling.specs.Settling.{is_message, is_answered, is_last, asked_again, answered_with, settled_at, settled_of}
use Rattle.polling.specs.Calls.{DrawsPolling, heard_by, HearsPolling}
use Rattle.promises_frame.proofs.Cases.{by_le, by-lt}
use Rattle.promises_polling.specs.History.{any, Verdict, History}
use Rattle.promises_polling.specs.Ends.{try_draws, OneGoesOn, PollingEnds}
use Rattle.promises_polling.specs.Ends as ends
use Rattle.promises_polling.proofs.Meaning.{try_of, meant-over, meant-draws, meant-drawn, Mode, over, drawing, drawn, listening, mode}
use Rattle.promises_polling.proofs.Path.{Way, stop, draw_one, hear_on, hear_end, heard_now, silent_now, ending, told_at, settled_in}
use Rattle.promises_polling.proofs.Drawn.{drawn-so, counted, leaves, idle-draws, busy-draws}
use Rattle.promises_polling.proofs.Heard.{next, listen-one, heard-so, heard-over, heard-drawing, heard-listening}
use Rattle.promises_polling.proofs.Paces.{fine-pace}
use Rattle.promises_polling.proofs.Kept.{try-long, try-short, at-below}
use Rattle.promises_polling.proofs.Batches.{way_of}

-- A try is no longer than that.
pub try-most : (p : Pace) (address : ℕ) → length (try_drawn p address) ≤ try_draws p
try-most p address = by_le address 999 (λ h. omega (arith, try-long p address h)) (λ h. omega (arith, try-short p address h))

module _ (p : Pace) (fine : bad_pace p ≡ false) where
  -- All that one try may come to, and all that one transmitter may.
  abbrev whole : ℕ
  whole = try_draws p + p.longest

  abbrev each : ℕ
  each = p.tries * whole

  -- What is left of this try.
  abbrev rest_in : Polling → ℕ
  rest_in w = pick (eqb w.listening 0) (length (try_of p w) - w.passed + p.longest) (max (p.longest - w.passed) 1)

  abbrev more : Polling → ℕ
  more w = (w.round.count - w.at - 1) * each + (p.tries - w.tried - 1) * whole

  abbrev left : Polling → ℕ
  left w = pick (is_over w) 0 (more w + rest_in w)

  open-left : (w : Polling) → is_over w ≡ false → left w ≡ more w + rest_in w
  open-left w e = ap (λ (b : Bool). pick b 0 (more w + rest_in w)) e

  draws-rest : (w : Polling) → w.listening ≡ 0 → rest_in w ≡ length (try_of p w) - w.passed + p.longest
  draws-rest w z = ap (λ (b : Bool). pick b (length (try_of p w) - w.passed + p.longest) (max (p.longest - w.passed) 1)) (eq-eqb w.listening 0 z)

  hears-rest : (w : Polling) → w.listening ≡ 1 → rest_in w ≡ max (p.longest - w.passed) 1
  hears-rest w z =
      ap (λ (b : Bool). pick b (length (try_of p w) - w.passed + p.longest) (max (p.longest - w.passed) 1)) (ne_eqb w.listening 0 (omega arith))

  -- One sample drawn.
  draw-less : (w : Polling) → is_over w ≡ false → w.listening ≡ 0 → w.passed < length (try_of p w) → suc (left (meant p (draws w (w.passed + 1)))) ≤ left w
  draw-less w e z l =
      by-lt (w.passed + 1) (length (try_of p w)) goes ends
    where
      here : left w ≡ more w + (length (try_of p w) - w.passed + p.longest)
      here = open-left w e ∙ ap (λ (n : ℕ). more w + n) (draws-rest w z)

      goes : w.passed + 1 < length (try_of p w) → suc (left (meant p (draws w (w.passed + 1)))) ≤ left w
      goes h =
          let there : left (meant p (draws w (w.passed + 1))) ≡ more w + (length (try_of p w) - (w.passed + 1) + p.longest)
          = ap left (meant-draws p w (w.passed + 1) e h) ∙ open-left (draws w (w.passed + 1)) e in
          omega (arith, here, there)

      ends : length (try_of p w) ≤ w.passed + 1 → suc (left (meant p (draws w (w.passed + 1)))) ≤ left w
      ends h =
          let there : left (meant p (draws w (w.passed + 1))) ≡ more w + max (p.longest - 0) 1
          = ap left (meant-drawn p w (w.passed + 1) e h) ∙ open-left (listens w rest_state 0) e in
          let f = fine-pace p fine in
          let some = f.wait in
          let most = f.longest in
          omega (arith, here, there, some, most)

  -- One sample heard, and the try goes on.
  not-longest : (s : SoFar) (q : ℕ) → ending p s q ≡ false → q < p.longest
  not-longest s q f = leb-false p.longest q (none_of (closes (timing_of p) s || silent_now p s q) (leb p.longest q) f).1

  hear-less : (w : Polling) (s : SoFar) → is_over w ≡ false → w.listening ≡ 1 → ending p s (w.passed + 1) ≡ false → suc (left (listens w s (w.passed + 1))) ≤ left w
  hear-less w s e z f =
      let here : left w ≡ more w + max (p.longest - w.passed) 1 = open-left w e ∙ ap (λ (n : ℕ). more w + n) (hears-rest w z) in
      let there : left (listens w s (w.passed + 1)) ≡ more w + max (p.longest - (w.passed + 1)) 1 = open-left (listens w s (w.passed + 1)) e in
      let less = not-longest s (w.passed + 1) f in
      omega (arith, here, there, less)

  -- A try that begins.
  begins-most : (w : Polling) → is_over w ≡ false → left (meant p (draws w 0)) ≤ more w + whole
  begins-most w e =
      by-lt 0 (length (try_of p w)) goes ends
    where
      goes : 0 < length (try_of p w) → left (meant p (draws w 0)) ≤ more w + whole
      goes h =
          let there : left (meant p (draws w 0)) ≡ more w + (length (try_of p w) - 0 + p.longest) = ap left (meant-draws p w 0 e h) ∙ open-left (draws w 0) e in
          let most = try-most p (turn_of w).address in
          omega (arith, there, most)

      ends : length (try_of p w) ≤ 0 → left (meant p (draws w 0)) ≤ more w + whole
      ends h =
          let there : left (meant p (draws w 0)) ≡ more w + max (p.longest - 0) 1 = ap left (meant-drawn p w 0 e h) ∙ open-left (listens w rest_state 0) e in
          let f = fine-pace p fine in
          let some = f.wait in
          let most = f.longest in
          omega (arith, there, some, most)

  -- Products of a number and of the one before it.
  one_more : (n k : ℕ) → suc n * k ≡ n * k + k
  one_more n k = omega arith

  less_one : (n k : ℕ) → 1 ≤ n → n * k ≡ (n - 1) * k + k
  less_one zero k h = absurd (omega arith)
  less_one (suc n) k h = let back : suc n - 1 ≡ n = omega arith in one_more n k ∙ ap (λ (m : ℕ). m * k + k) (sym back)

  -- A try that is settled.
  settled-less : (w : Polling) (minute : ℕ) (told : MessageTold) → is_over w ≡ false → suc (left (meant p (settled_in p minute w told))) ≤ more w + 1
  settled-less w minute told e = go (is_answered p w told) refl
    where
      again : is_answered p w told ≡ false → suc (left (meant p (asked_again w))) ≤ more w + 1
      again f =
          let not_last : w.tried + 1 < p.tries = leb-false p.tries (w.tried + 1) (none_of (is_message told) (is_last p w) f).1 in
          let most = begins-most (asked_again w) e in
          let fewer : p.tries - (w.tried + 1) - 1 ≡ p.tries - w.tried - 1 - 1 = omega arith in
          let product : (p.tries - w.tried - 1) * whole ≡ (p.tries - (w.tried + 1) - 1) * whole + whole
          = less_one (p.tries - w.tried - 1) whole (omega arith) ∙ ap (λ (n : ℕ). n * whole + whole) (sym fewer) in
          omega (arith, most, product)

      next : (b : Bool) → is_over (answered_with minute told w) ≡ b → suc (left (meant p (answered_with minute told w))) ≤ more w + 1
      next true f =
          let none : left (meant p (answered_with minute told w)) ≡ 0
          = ap left (meant-over p (answered_with minute told w) f) ∙ ap (λ (b : Bool). pick b 0 (more (answered_with minute told w) + rest_in (answered_with minute told w))) f in
          omega (arith, none)
      next false f =
          let most = begins-most (answered_with minute told w) f in
          let below = (at-below (answered_with minute told w) f).0 in
          let fewer : w.round.count - (w.at + 1) - 1 ≡ w.round.count - w.at - 1 - 1 = omega arith in
          let product : (w.round.count - w.at - 1) * each ≡ (w.round.count - (w.at + 1) - 1) * each + each
          = less_one (w.round.count - w.at - 1) each (omega (arith, below)) ∙ ap (λ (n : ℕ). n * each + each) (sym fewer) in
          let g = fine-pace p fine in
          let some = g.tries in
          let back : p.tries - 1 ≡ p.tries - 0 - 1 = omega arith in
          let tries : each ≡ (p.tries - 0 - 1) * whole + whole = less_one p.tries whole some ∙ ap (λ (n : ℕ). n * whole + whole) back in
          omega (arith, most, product, tries)

      go : (b : Bool) → is_answered p w told ≡ b → suc (left (meant p (pick b (answered_with minute told w) (asked_again w)))) ≤ more w + 1
      go true f = next (is_over (answered_with minute told w)) refl
      go false f = again f

  end-less : (w : Polling) (minute : ℕ) (told : MessageTold) → is_over w ≡ false → w.listening ≡ 1 → suc (left (meant p (settled_in p minute w told))) ≤ left w
  end-less w minute told e z =
      let here : left w ≡ more w + max (p.longest - w.passed) 1 = open-left w e ∙ ap (λ (n : ℕ). more w + n) (hears-rest w z) in
      let most = settled-less w minute told e in
      omega (arith, here, most)

  -- A way has no more samples than are left.
  way-most : {w e : Polling} {ds xs : List ℕ} {vs : List Verdict} → Way p any w ds xs vs e → length ds + length xs ≤ left w
  way-most stop = omega arith
  way-most {w} (draw_one e z l h) = omega (arith, way-most h, draw-less w e z l)
  way-most {w} (hear_on x e z l f h) = omega (arith, way-most h, hear-less w (heard_now p w x) e z f)
  way-most {w} (hear_end minute x c e z l f h) = omega (arith, way-most h, end-less w minute (told_at p (heard_now p w x) (w.passed + 1)) e z)

  -- What is left of any state.
  at_most : (w : Polling) → is_over w ≡ false → (n : ℕ) → n ≤ more w + whole → n ≤ (w.round.count - w.at) * each
  at_most w e n h =
      let f = fine-pace p fine in
      let some = f.tries in
      let below = (at-below w e).0 in
      let fewer : p.tries - w.tried - 1 ≤ p.tries - 1 = omega arith in
      let tries = less_one p.tries whole some in
      let count = less_one (w.round.count - w.at) each (omega (arith, below)) in
      let product : (p.tries - w.tried - 1) * whole ≤ (p.tries - 1) * whole = mul-le-mul_right whole fewer in
      omega (arith, h, tries, count, product)

  pub from-most : (w : Polling) → left (meant p w) ≤ (w.round.count - w.at) * each
  from-most w = go (mode p w)
    where
      go : Mode p w → left (meant p w) ≤ (w.round.count - w.at) * each
      go (over e m) =
          let none : left (meant p w) ≡ 0 = ap left m ∙ ap (λ (b : Bool). pick b 0 (more w + rest_in w)) e in
          omega (arith, none)
      go (drawing e z l m) =
          let is : left (meant p w) ≡ more w + (length (try_of p w) - w.passed + p.longest) = ap left m ∙ open-left (draws w w.passed) e in
          at_most w e (left (meant p w)) (let most = try-most p (turn_of w).address in omega (arith, is, most))
      go (drawn e z l m) =
          let is : left (meant p w) ≡ more w + max (p.longest - 0) 1 = ap left m ∙ open-left (listens w rest_state 0) e in
          let f = fine-pace p fine in
          let some = f.wait in
          let most = f.longest in
          at_most w e (left (meant p w)) (omega (arith, is, some, most))
      go (listening e z m) =
          let is : left (meant p w) ≡ more w + max (p.longest - w.passed) 1 = ap left m ∙ open-left (listens w (lines.meant w.lines) w.passed) e in
          let f = fine-pace p fine in
          let some = f.wait in
          let most = f.longest in
          at_most w e (left (meant p w)) (omega (arith, is, some, most))

  -- One try: what may still be drawn of it, and heard.
  abbrev draws_left : Polling → ℕ
  draws_left w = pick (eqb w.listening 0) (length (try_of p w) - w.passed) 0

  abbrev hears_left : Polling → ℕ
  hears_left w = pick (eqb w.listening 0) p.longest (max (p.longest - w.passed) 1)

  hears-left : (w : Polling) → w.listening ≡ 1 → (draws_left w ≡ 0) × (hears_left w ≡ max (p.longest - w.passed) 1)
  hears-left w z =
      let e : eqb w.listening 0 ≡ false = ne_eqb w.listening 0 (omega arith) in
      (ap (λ (b : Bool). pick b (length (try_of p w) - w.passed) 0) e, ap (λ (b : Bool). pick b p.longest (max (p.longest - w.passed) 1)) e)

  draws-left : (w : Polling) → w.listening ≡ 0 → (draws_left w ≡ length (try_of p w) - w.passed) × (hears_left w ≡ p.longest)
  draws-left w z =
      let e : eqb w.listening 0 ≡ true = eq-eqb w.listening 0 z in
      (ap (λ (b : Bool). pick b (length (try_of p w) - w.passed) 0) e, ap (λ (b : Bool). pick b p.longest (max (p.longest - w.passed) 1)) e)

  -- After one sample more.
  next-left : (w : Polling) (q : ℕ) → is_over w ≡ false → (draws_left (meant p (draws w q)) ≤ length (try_of p w) - q) × (hears_left (meant p (draws w q)) ≤ p.longest)
  next-left w q e = by-lt q (length (try_of p w)) goes ends
    where
      goes : q < length (try_of p w) → (draws_left (meant p (draws w q)) ≤ length (try_of p w) - q) × (hears_left (meant p (draws w q)) ≤ p.longest)
      goes h =
          let a : draws_left (meant p (draws w q)) ≡ length (try_of p w) - q = ap draws_left (meant-draws p w q e h) in
          let b : hears_left (meant p (draws w q)) ≡ p.longest = ap hears_left (meant-draws p w q e h) in
          (omega (arith, a), omega (arith, b))

      ends : length (try_of p w) ≤ q → (draws_left (meant p (draws w q)) ≤ length (try_of p w) - q) × (hears_left (meant p (draws w q)) ≤ p.longest)
      ends h =
          let a : draws_left (meant p (draws w q)) ≡ 0 = ap draws_left (meant-drawn p w q e h) in
          let b : hears_left (meant p (draws w q)) ≡ max (p.longest - 0) 1 = ap hears_left (meant-drawn p w q e h) in
          let f = fine-pace p fine in
          let some = f.wait in
          let most = f.longest in
          (omega (arith, a), omega (arith, b, some, most))

  -- A way that settles no try.
  try-left : {w e : Polling} {ds xs : List ℕ} → Way p any w ds xs [] e → (length ds ≤ draws_left w) × (length xs + hears_left e ≤ hears_left w)
  try-left stop = (omega arith, omega arith)
  try-left {w} (draw_one e z l h) =
      let r = try-left h in
      let n = next-left w (w.passed + 1) e in
      let d = draws-left w z in
      (omega (arith, r.0, n.0, d.0), omega (arith, r.1, n.1, d.1))
  try-left {w} (hear_on x e z l f h) =
      let r = try-left h in
      let d = hears-left w z in
      let less = not-longest (heard_now p w x) (w.passed + 1) f in
      (omega (arith, r.0), omega (arith, r.1, d.1, less))

  -- A try that begins.
  begun-left : (w : Polling) → w.passed ≡ 0 → w.listening ≡ 0 → (draws_left (meant p w) ≤ try_draws p) × (hears_left (meant p w) ≤ p.longest)
  begun-left w q z = go (mode p w)
    where
      most : length (try_of p w) ≤ try_draws p
      most = try-most p (turn_of w).address

      go : Mode p w → (draws_left (meant p w) ≤ try_draws p) × (hears_left (meant p w) ≤ p.longest)
      go (over e m) =
          let d = draws-left w z in
          (omega (arith, ap draws_left m, d.0, most), omega (arith, ap hears_left m, d.1))
      go (drawing e u l m) =
          let a : draws_left (meant p w) ≡ length (try_of p w) - w.passed = ap draws_left m in
          let b : hears_left (meant p w) ≡ p.longest = ap hears_left m in
          (omega (arith, a, most), omega (arith, b))
      go (drawn e u l m) =
          let a : draws_left (meant p w) ≡ 0 = ap draws_left m in
          let b : hears_left (meant p w) ≡ max (p.longest - 0) 1 = ap hears_left m in
          let f = fine-pace p fine in
          let some = f.wait in
          let high = f.longest in
          (omega (arith, a), omega (arith, b, some, high))
      go (listening e u m) = absurd (u z)

  -- What one call takes.
  abbrev taken_in : Listened → ℕ
  taken_in (still_going s k) = k
  taken_in (settled_by told k) = k

  taken-later : (h : Listened) → taken_in (later 1 h) ≡ suc (taken_in h)
  taken-later (still_going s k) = omega arith
  taken-later (settled_by told k) = omega arith

  taken_is : (minute : ℕ) (w : Polling) (h : Listened) → (settled_at p minute w h).taken ≡ taken_in h
  unfolding settled_at
  taken_is minute w (still_going s k) = refl
  taken_is minute w (settled_by told k) = go (is_answered p w told)
    where
      go : (b : Bool) → (pick b (settled_of (answered_with minute told w) k w.at 1 (mark (is_over (answered_with minute told w))) (number_told told)) (settled_of (asked_again w) k w.at 0 0 (number_told told))).taken ≡ k
      go true = refl
      go false = refl

  first_taken : (s : SoFar) (q x : ℕ) (xs : List ℕ) (P : ℕ → Type 0) → P 1
      → (ending p (next p s x) (q + 1) ≡ false → P (suc (taken_in (listen p (next p s x) (q + 1) xs)))) → P (taken_in (listen p s q (x ∷ xs)))
  first_taken s q x xs P one more =
      subst (λ (h : Listened). P (taken_in h)) (sym (listen-one p s q x xs (next p s x) refl))
      (of-pick (λ (h : Listened). P (taken_in h)) (ending p (next p s x) (q + 1)) (settled_by (told_at p (next p s x) (q + 1)) 1) (later 1 (listen p (next p s x) (q + 1) xs)) (λ e. one)
      (λ e. subst P (sym (taken-later (listen p (next p s x) (q + 1) xs))) (more e)))

  some-sample : (s : SoFar) (q x : ℕ) (xs : List ℕ) → 1 ≤ taken_in (listen p s q (x ∷ xs))
  some-sample s q x xs = first_taken s q x xs (λ n. 1 ≤ n) (omega arith) (λ e. omega arith)

  few-samples : (s : SoFar) (q : ℕ) (xs : List ℕ) → taken_in (listen p s q xs) ≤ max (p.longest - q) 1
  few-samples s q [] = unfold listen in omega arith
  few-samples s q (x ∷ xs) =
      let i = few-samples (next p s x) (q + 1) xs in
      first_taken s q x xs (λ n. n ≤ max (p.longest - q) 1) (omega arith) (λ e. let less = not-longest (next p s x) (q + 1) e in omega (arith, i, less))

  module _ (w : Polling) (minute : ℕ) (xs : List ℕ) (a : LeftByHearing) (h : HearsPolling w p minute xs a) where
    listened : (s : SoFar) (q : ℕ) → is_over w ≡ false → meant p w ≡ listens w s q → a.taken ≡ taken_in (listen p s q xs)
    listened s q e m =
        ap (λ (x : LeftByHearing). x.taken) (heard-so p fine w minute xs a h ∙ ap (λ (v : Polling). heard_by p minute v xs) m ∙ heard-listening p minute w s q xs e)
        ∙ taken_is minute (listens w s q) (listen p s q xs)

    over-taken : is_over w ≡ true → meant p w ≡ w → a ≡ settled_of w 0 0 0 1 0
    over-taken e m = heard-so p fine w minute xs a h ∙ ap (λ (v : Polling). heard_by p minute v xs) m ∙ heard-over p minute w xs e

    drawing-taken : is_over w ≡ false → w.listening ≡ 0 → (q : ℕ) → meant p w ≡ draws w q → a.taken ≡ 0
    drawing-taken e z q m =
        ap (λ (x : LeftByHearing). x.taken) (heard-so p fine w minute xs a h ∙ ap (λ (v : Polling). heard_by p minute v xs) m ∙ heard-drawing p minute (draws w q) 0 xs e refl)

    call-most : a.taken ≤ hears_left (meant p w)
    call-most = go (mode p w)
      where
        go : Mode p w → a.taken ≤ hears_left (meant p w)
        go (over e m) = omega (arith, ap (λ (x : LeftByHearing). x.taken) (over-taken e m))
        go (drawing e z l m) = omega (arith, drawing-taken e z w.passed m)
        go (drawn e z l m) =
            let b : hears_left (meant p w) ≡ max (p.longest - 0) 1 = ap hears_left m in
            omega (arith, b, listened rest_state 0 e m, few-samples rest_state 0 xs)
        go (listening e z m) =
            let b : hears_left (meant p w) ≡ max (p.longest - w.passed) 1 = ap hears_left m in
            omega (arith, b, listened (lines.meant w.lines) w.passed e m, few-samples (lines.meant w.lines) w.passed xs)

    takes-some : (s : SoFar) (q : ℕ) → is_over w ≡ false → meant p w ≡ listens w s q → 1 ≤ length xs → 1 ≤ a.taken
    takes-some s q e m some = go xs some (listened s q e m)
      where
        go : (ys : List ℕ) → 1 ≤ length ys → a.taken ≡ taken_in (listen p s q ys) → 1 ≤ a.taken
        go [] none is = absurd (omega arith)
        go (y ∷ ys) n is = omega (arith, is, some-sample s q y ys)

    module _ (out after : List ℕ) (d : LeftByDrawing) (c : DrawsPolling w p out d after) where
      put-none : (is_over w || not (eqb w.listening 0)) ≡ true → d.count ≡ 0
      put-none e = counted p fine w out after d c ∙ ap length (idle-draws p w e (length out) 0).0

      put_some : is_over w ≡ false → w.listening ≡ 0 → d.count ≡ min (length out) (length (try_of p w) - w.passed)
      put_some e z =
          counted p fine w out after d c
          ∙ ap length (busy-draws p w (ap₂ (λ (a b : Bool). a || not b) e (eq-eqb w.listening 0 z)) (length out) 0).0
          ∙ length-take (length out) (drop w.passed (try_of p w)) ∙ ap (min (length out)) (length-drop w.passed (try_of p w))

      over-told : d.over ≡ mark (is_over w)
      over-told = ap (λ (x : LeftByDrawing). x.over) (drawn-so p fine w out after d c)

      one-goes-on : d.over ≡ 0 → 1 ≤ length out → 1 ≤ length xs → OneGoesOn d a
      one-goes-on o room some = go (mode p w)
        where
          go : Mode p w → OneGoesOn d a
          go (over e m) = absurd (omega (arith, o, over-told, ap mark e))
          go (drawing e z l m) = ends.draws (omega (arith, put_some e z, room, l)) (drawing-taken e z w.passed m)
          go (drawn e z l m) = ends.hears (omega (arith, put_some e z, l)) (takes-some rest_state 0 e m some)
          go (listening e z m) =
              ends.hears (put-none (ap₂ (λ (a b : Bool). a || not b) e (ne_eqb w.listening 0 z))) (takes-some (lines.meant w.lines) w.passed e m some)

      left_alone : d.over ≡ 1 → (d.count ≡ 0) × (a.taken ≡ 0) × (a.over ≡ 1) × (d.polling ≡ w) × (a.polling ≡ w)
      left_alone o = go (mode p w)
        where
          stays : is_over w ≡ true → meant p w ≡ w → (d.count ≡ 0) × (a.taken ≡ 0) × (a.over ≡ 1) × (d.polling ≡ w) × (a.polling ≡ w)
          stays e m =
              let s : (is_over w || not (eqb w.listening 0)) ≡ true = ap (λ (b : Bool). b || not (eqb w.listening 0)) e in
              let is = over-taken e m in (
                put-none s,
                ap (λ (x : LeftByHearing). x.taken) is,
                ap (λ (x : LeftByHearing). x.over) is,
                leaves p fine w out after d c ∙ (idle-draws p w s (length out) (length (drawn_by p w (length out)))).1 ∙ m,
                ap (λ (x : LeftByHearing). x.polling) is,
              )

          go : Mode p w → (d.count ≡ 0) × (a.taken ≡ 0) × (a.over ≡ 1) × (d.polling ≡ w) × (a.polling ≡ w)
          go (over e m) = stays e m
          go (drawing e z l m) = absurd (omega (arith, o, over-told, ap mark e))
          go (drawn e z l m) = absurd (omega (arith, o, over-told, ap mark e))
          go (listening e z m) = absurd (omega (arith, o, over-told, ap mark e))

  one-try-most : (from : Polling) → from.passed ≡ 0 → from.listening ≡ 0 → (ds xs : List ℕ) (w : Polling) → History p any from ds xs [] w
      → (minute : ℕ) (samples : List ℕ) (a : LeftByHearing) → HearsPolling w p minute samples a → (length ds ≤ try_draws p) × (length xs + a.taken ≤ p.longest)
  one-try-most from q z ds xs w h minute samples a c =
      let r = try-left (way_of p fine any from h) in
      let b = begun-left from q z in
      (omega (arith, r.0, b.0), omega (arith, r.1, b.1, call-most w minute samples a c))

pub polling-ends : PollingEnds
polling-ends =
    record {
      one_try = λ p from fine q z ds xs w h minute samples a c. one-try-most p fine from q z ds xs w h minute samples a c;
      bound = λ p from fine ds xs vs end h.
          let r = way-most p fine (way_of p fine any from h) in
          let m = from-most p fine from in
          omega (arith, r, m);
      goes_on = λ p w fine out after d c minute xs a h. one-goes-on p fine w minute xs a h out after d c;
      stands = λ p w fine out after d c minute xs a h. left_alone p fine w minute xs a h out after d c;
    }
