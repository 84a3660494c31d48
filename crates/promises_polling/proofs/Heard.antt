-- A call that hears is a way: by induction on the samples, each goes on or settles the try.
use mathlib.Core.Path.{◌≡◌, refl, sym, ap, subst, ◌∙◌}
use mathlib.Core.Bool.{Bool, true, false, ◌||◌, and-false}
use mathlib.Core.List.{List, [], ◌∷◌}
use Prim.Native.Nat.{ℕ, zero, suc, ◌+◌, ◌≤◌}
use native.Mathlib.Omega.{arith}
use native.Mathlib.Nat.{add-zero}
use lib.Dec.{eqb, leb, ltb}
use lib.ListN.{take}
use borrow.Author.Tests.{eq-eqb, lt-ltb}
use Rattle.frame.specs.Pick.{pick}
use Rattle.frame.specs.Line.{mark}
use Rattle.lines.specs.declared.SoFar.{SoFar}
use Rattle.lines.specs.Sample.{Sample, sample_of}
use Rattle.lines.specs.SoFar as lines
use Rattle.lines.specs.SoFar.{rest_state}
use Rattle.lines.specs.Timing.{bad_timing}
use Rattle.lines.specs.Step.{after, closes}
use Rattle.lines.specs.Hearing.{MessageTold, number_told}
use Rattle.lines.proofs.Cases.{none_of, of-pick}
use Rattle.polling.specs.declared.Pace.{Pace}
use Rattle.polling.specs.declared.Polling.{Polling}
use Rattle.polling.specs.Settling.{LeftByHearing}
use Rattle.polling.specs.Pace.{timing_of, bad_pace}
use Rattle.polling.specs.Meant.{is_over, listens, meant}
use Rattle.polling.specs.Listening.{Listened, still_going, settled_by, later, listen}
use Rattle.polling.specs.Settling.{is_answered, asked_again, answered_with, settled_of, settled_at}
use Rattle.polling.specs.Calls.{heard_by, HearsPolling}
use Rattle.promises_polling.specs.History.{Clock, Shows, verdicts}
use Rattle.promises_lines.proofs.Legal.{Legal, rest, Stepped, on, shut, step}
use Rattle.promises_lines.proofs.Ends.{good, meant-legal}
use Rattle.promises_polling.proofs.Paces.{fine-pace}
use Rattle.promises_polling.proofs.Meaning.{meant-listens, Mode, over, drawing, drawn, listening, mode, again}
use Rattle.promises_polling.proofs.Path.{Way, stop, hear_on, hear_end, moved, silent_now, ending, told_at, settle-by, settled_in, verdict_by, verdict_in}
use Rattle.promises_polling.proofs.Drawn.{no-fault}

-- A good pace has good timing.
pub timing-fine : (p : Pace) → bad_pace p ≡ false → bad_timing (timing_of p) ≡ false
timing-fine p e = (fine-pace p e).timing

-- The lines after a sample that does not close are such as a call leaves.
pub stays-legal : (p : Pace) → bad_pace p ≡ false → {s : SoFar} → Legal s → (k : Sample) → closes (timing_of p) (after (timing_of p) s k) ≡ false → Legal (after (timing_of p) s k)
stays-legal p fine {s} l k f =
    let g = good (timing_of p) (timing-fine p fine) in go (step (timing_of p) g.some g.gap l k)
  where
    go : Stepped (timing_of p) k (after (timing_of p) s k) → Legal (after (timing_of p) s k)
    go (on e l) = l
    go (shut e k c) = absurd (let z : ◌≡◌ {A = ℕ} 0 1 = cc in omega arith)

-- A try that goes on did not close.
pub not-closed : (p : Pace) (s : SoFar) (q : ℕ) → ending p s q ≡ false → closes (timing_of p) s ≡ false
not-closed p s q f = (none_of (closes (timing_of p) s) (silent_now p s q) (none_of (closes (timing_of p) s || silent_now p s q) (leb p.longest q) f).0).0

abbrev pub next : Pace → SoFar → ℕ → SoFar
next p s x = after (timing_of p) s (sample_of x)

-- Listening, a sample at a time.
pub listen-one : (p : Pace) (s : SoFar) (q x : ℕ) (xs : List ℕ) (n : SoFar) → n ≡ after (timing_of p) s (sample_of x)
    → listen p s q (x ∷ xs) ≡ pick (ending p n (q + 1)) (settled_by (told_at p n (q + 1)) 1) (later 1 (listen p n (q + 1) xs))
unfolding listen
listen-one p s q x xs n e = rw e (settle-by p (after (timing_of p) s (sample_of x)) (q + 1) (later 1 (listen p (after (timing_of p) s (sample_of x)) (q + 1) xs)))

-- What a settled try tells is told once, and a try that goes on tells nothing.
pub told-end : (p : Pace) (minute : ℕ) (w : Polling) (told : MessageTold) (k : ℕ) → 1 ≤ k
    → ((settled_at p minute w (settled_by told k)).taken ≡ k) × ((settled_at p minute w (settled_by told k)).polling ≡ settled_in p minute w told)
    × (verdicts (settled_at p minute w (settled_by told k)) ≡ verdict_in p minute w told ∷ [])
unfolding settled_at
told-end p minute w told k h = go (is_answered p w told)
  where
    go : (b : Bool) → let a : LeftByHearing = pick b (settled_of (answered_with minute told w) k w.at 1 (mark (is_over (answered_with minute told w))) (number_told told)) (settled_of (asked_again w) k w.at 0 0 (number_told told)) in
        (a.taken ≡ k) × (a.polling ≡ pick b (answered_with minute told w) (asked_again w))
        × (verdicts a ≡ pick b (verdict_by w.at 1 (mark (is_over (answered_with minute told w))) (number_told told)) (verdict_by w.at 0 0 (number_told told)) ∷ [])
    go true = (refl, refl, rw (lt-ltb 0 k h))
    go false = (refl, refl, rw (lt-ltb 0 k h))

pub told-on : (p : Pace) (minute : ℕ) (w : Polling) (s : SoFar) (k : ℕ)
    → ((settled_at p minute w (still_going s k)).taken ≡ k) × ((settled_at p minute w (still_going s k)).polling ≡ listens w s (w.passed + k)) × (verdicts (settled_at p minute w (still_going s k)) ≡ [])
unfolding settled_at
told-on p minute w s k = (refl, refl, rw (and-false (ltb 0 k)))

-- What settles a try is a sample.
abbrev pub Some : Listened → Type 0
Some (still_going s k) = 0 ≤ k
Some (settled_by told k) = 1 ≤ k

some-later : (l : Listened) → Some (later 1 l)
some-later (still_going s k) = omega arith
some-later (settled_by told k) = omega arith

pub some-taken : (p : Pace) (s : SoFar) (q : ℕ) (xs : List ℕ) → Some (listen p s q xs)
some-taken p s q [] = unfold listen in omega arith
some-taken p s q (x ∷ xs) =
    let n : SoFar = after (timing_of p) s (sample_of x) in
    subst Some (sym (listen-one p s q x xs n refl))
    (of-pick Some (ending p n (q + 1)) (settled_by (told_at p n (q + 1)) 1) (later 1 (listen p n (q + 1) xs)) (λ e. omega arith) (λ e. some-later (listen p n (q + 1) xs)))

-- One sample before.
pub record Later (a b : LeftByHearing) : Type 0 where
  pub taken : a.taken ≡ suc b.taken
  pub polling : a.polling ≡ b.polling
  pub told : verdicts a ≡ verdicts b

pub one-before : (p : Pace) (minute : ℕ) (w : Polling) (s n : SoFar) (q : ℕ) (l : Listened) → Some l
    → Later (settled_at p minute (listens w s q) (later 1 l)) (settled_at p minute (listens w n (q + 1)) l)
one-before p minute w s n q (still_going left k) h =
    let a = told-on p minute (listens w s q) left (1 + k) in
    let b = told-on p minute (listens w n (q + 1)) left k in
    let sum : q + (1 + k) ≡ q + 1 + k = omega arith in
    let one : 1 + k ≡ suc k = omega arith in
    record {
      taken = a.0 ∙ one ∙ ap suc (sym b.0);
      polling = a.1 ∙ ap (listens w left) sum ∙ sym b.1;
      told = a.2 ∙ sym b.2;
    }
one-before p minute w s n q (settled_by told k) h =
    let a = told-end p minute (listens w s q) told (1 + k) (omega arith) in
    let b = told-end p minute (listens w n (q + 1)) told k h in
    let one : 1 + k ≡ suc k = omega arith in
    record { taken = a.0 ∙ one ∙ ap suc (sym b.0); polling = a.1 ∙ sym b.1; told = a.2 ∙ sym b.2 }

module _ (p : Pace) (fine : bad_pace p ≡ false) (clock : Clock) (minute : ℕ) (shown : Shows clock minute) where
  abbrev pub heard_from : Polling → SoFar → ℕ → List ℕ → LeftByHearing
  heard_from w s q xs = settled_at p minute (listens w s q) (listen p s q xs)

  abbrev WayBy : Polling → SoFar → ℕ → List ℕ → LeftByHearing → Type 0
  WayBy w s q xs a = Way p clock (listens w s q) [] (take a.taken xs) (verdicts a) (meant p a.polling)

  first-settles : (w : Polling) → is_over w ≡ false → (s : SoFar) (q : ℕ) → Legal s → (x : ℕ) (xs : List ℕ)
      → ending p (after (timing_of p) s (sample_of x)) (q + 1) ≡ true
      → WayBy w s q (x ∷ xs) (settled_at p minute (listens w s q) (settled_by (told_at p (after (timing_of p) s (sample_of x)) (q + 1)) 1))
  first-settles w e s q l x xs f =
      let told : MessageTold = told_at p (after (timing_of p) s (sample_of x)) (q + 1) in
      let r = told-end p minute (listens w s q) told 1 (omega arith) in
      moved refl refl (sym (ap (λ (n : ℕ). take n (x ∷ xs)) r.0)) (sym r.2) (ap (meant p) (sym r.1))
      (hear_end {w = listens w s q} minute x shown e refl l f stop)

  pub hear-many : (w : Polling) → is_over w ≡ false → (s : SoFar) (q : ℕ) → Legal s → (xs : List ℕ) → WayBy w s q xs (heard_from w s q xs)
  hear-many w e s q l [] =
      let r = told-on p minute (listens w s q) s 0 in
      moved refl refl (sym (none (heard_from w s q []).taken)) (sym (nothing-told)) (sym (ap (meant p) left ∙ meant-listens p w s q e l)) stop
    where
      none : (n : ℕ) → ◌≡◌ {A = List ℕ} (take n []) []
      none zero = refl
      none (suc n) = refl

      nothing-told : verdicts (heard_from w s q []) ≡ []
      nothing-told = unfold listen in (told-on p minute (listens w s q) s 0).2

      left : (heard_from w s q []).polling ≡ listens w s q
      left = unfold listen in ((told-on p minute (listens w s q) s 0).1 ∙ ap (listens w s) (add-zero q))
  hear-many w e s q l (x ∷ xs) = go (ending p (next p s x) (q + 1)) refl (λ g. hear-many w e (next p s x) (q + 1) g xs)
    where
      go : (b : Bool) → ending p (next p s x) (q + 1) ≡ b → (Legal (next p s x) → WayBy w (next p s x) (q + 1) xs (heard_from w (next p s x) (q + 1) xs)) → WayBy w s q (x ∷ xs) (heard_from w s q (x ∷ xs))
      go true f onward =
          subst (λ (h : Listened). WayBy w s q (x ∷ xs) (settled_at p minute (listens w s q) h))
          (sym (listen-one p s q x xs (next p s x) refl ∙ ap (λ (b : Bool). pick b (settled_by (told_at p (next p s x) (q + 1)) 1) (later 1 (listen p (next p s x) (q + 1) xs))) f))
          (first-settles w e s q l x xs f)
      go false f onward =
          let legal : Legal (next p s x) = stays-legal p fine l (sample_of x) (not-closed p (next p s x) (q + 1) f) in
          let h = listen p (next p s x) (q + 1) xs in
          let r = one-before p minute w s (next p s x) q h (some-taken p (next p s x) (q + 1) xs) in
          subst (λ (h : Listened). WayBy w s q (x ∷ xs) (settled_at p minute (listens w s q) h))
          (sym (listen-one p s q x xs (next p s x) refl ∙ ap (λ (b : Bool). pick b (settled_by (told_at p (next p s x) (q + 1)) 1) (later 1 (listen p (next p s x) (q + 1) xs))) f))
          (moved refl refl (sym (ap (λ (k : ℕ). take k (x ∷ xs)) r.taken)) (sym r.told) (ap (meant p) (sym r.polling))
          (hear_on {w = listens w s q} x e refl l f (onward legal)))

-- What one call answers where its pace is good.
pub heard-so : (p : Pace) → bad_pace p ≡ false → (w : Polling) (minute : ℕ) (xs : List ℕ) (a : LeftByHearing) → HearsPolling w p minute xs a → a ≡ heard_by p minute (meant p w) xs
heard-so p fine w minute xs a h =
    h.answers ∙ ap (λ (n : ℕ). pick (eqb n 0) (heard_by p minute (meant p w) xs) (settled_of w 0 0 0 0 n)) (no-fault p fine)

pub heard-over : (p : Pace) (minute : ℕ) (w : Polling) (xs : List ℕ) → is_over w ≡ true → heard_by p minute w xs ≡ settled_of w 0 0 0 1 0
unfolding heard_by
heard-over p minute w xs e = rw e

pub heard-drawing : (p : Pace) (minute : ℕ) (w : Polling) (q : ℕ) (xs : List ℕ) → is_over w ≡ false → w.listening ≡ 0 → heard_by p minute w xs ≡ settled_of w 0 0 0 0 0
unfolding heard_by
heard-drawing p minute w q xs e z = rw (e, eq-eqb w.listening 0 z)

pub heard-listening : (p : Pace) (minute : ℕ) (w : Polling) (s : SoFar) (q : ℕ) (xs : List ℕ) → is_over w ≡ false
    → heard_by p minute (listens w s q) xs ≡ settled_at p minute (listens w s q) (listen p s q xs)
unfolding heard_by
heard-listening p minute w s q xs e = rw e

module _ (p : Pace) (fine : bad_pace p ≡ false) (clock : Clock) (minute : ℕ) (shown : Shows clock minute) (w : Polling) (xs : List ℕ) (a : LeftByHearing) (h : HearsPolling w p minute xs a) where
  abbrev Goes : Type 0
  Goes = Way p clock (meant p w) [] (take a.taken xs) (verdicts a) (meant p a.polling)

  untold : (v : Polling) (o number : ℕ) → meant p w ≡ v → a ≡ settled_of v 0 0 0 o number → Goes
  untold v o number m e =
      moved refl refl (ap (λ (b : LeftByHearing). take b.taken xs) (sym e)) (ap verdicts (sym e)) (sym (ap (λ (b : LeftByHearing). meant p b.polling) e ∙ ap (meant p) (sym m) ∙ again p w)) stop

  listened : (s : SoFar) (q : ℕ) → is_over w ≡ false → Legal s → meant p w ≡ listens w s q → Goes
  listened s q e l m =
      let is : a ≡ heard_from p fine clock minute shown w s q xs = heard-so p fine w minute xs a h ∙ ap (λ (v : Polling). heard_by p minute v xs) m ∙ heard-listening p minute w s q xs e in
      subst (λ (b : LeftByHearing). Way p clock (meant p w) [] (take b.taken xs) (verdicts b) (meant p b.polling)) (sym is)
      (moved (sym m) refl refl refl refl (hear-many p fine clock minute shown w e s q l xs))

  pub hear-way : Goes
  hear-way = go (mode p w)
    where
      go : Mode p w → Goes
      go (over e m) = untold (meant p w) 1 0 refl (heard-so p fine w minute xs a h ∙ heard-over p minute (meant p w) xs (ap is_over m ∙ e))
      go (drawing e z l m) =
          untold (meant p w) 0 0 refl
          (heard-so p fine w minute xs a h ∙ heard-drawing p minute (meant p w) 0 xs (ap is_over m ∙ e) (ap (λ (v : Polling). v.listening) m))
      go (drawn e z l m) = listened rest_state 0 e rest m
      go (listening e z m) = listened (lines.meant w.lines) w.passed e (meant-legal w.lines) m
