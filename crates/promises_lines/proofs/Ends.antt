-- What a call answers is one of two: all samples were quiet; or those before one were, and that one is idle and closes. By induction on the samples, a
-- step at a time. The promises follow from these two cases.
use mathlib.Core.Path.{◌≡◌, refl, sym, ap, ◌∙◌}
use mathlib.Core.Bool.{true, false, not, ◌||◌}
use mathlib.Core.List.{List, [], ◌∷◌, ◌++◌, map}
use Prim.Native.Nat.{ℕ, ◌+◌, ◌≤◌}
use native.Mathlib.Omega.{arith}
use lib.Dec.{eqb, leb, ltb}
use lib.ListN.{length}
use borrow.Author.Tests.{eqb-true, leb-true, not-false}
use Rattle.frame.specs.Pick.{pick, within}
use Rattle.frame.specs.Faults.{first_of}
use Rattle.lines.specs.declared.SoFar.{SoFar}
use Rattle.lines.specs.declared.LinesTold.{LinesTold}
use Rattle.lines.specs.Sample.{Sample, idle, mark, space, both, foreign, sample_of}
use Rattle.lines.specs.Timing.{Timing, timing, bad_timing, timing_fault}
use Rattle.lines.specs.SoFar.{rest_state, spoilt_by, legal, meant}
use Rattle.lines.specs.Step.{after, closes}
use Rattle.lines.specs.Hearing.{Hearing, nothing, hearing, told_of, later, hear}
use Rattle.lines.specs.Calls.{answered, lines_answer, HearsLines}
use Rattle.lines.proofs.Cases.{of-pick, none_of}
use Rattle.promises_lines.specs.Runs.{is_idle}
use Rattle.frame.proofs.Both as together
use Rattle.promises_lines.proofs.Legal.{Legal, spoilt, Closing, Stepped, on, shut, step, view}
use Rattle.promises_lines.proofs.Quiet.{Quiet}

-- Timing that is not bad.
pub record Good (t : Timing) : Type 0 where
  pub some : 1 ≤ t.gap
  pub gap : t.gap ≤ 10000
  pub least : 1 ≤ t.least
  pub most : t.most ≤ 1000

pub good : (t : Timing) → bad_timing t ≡ false → Good t
good t e =
    let p = none_of (ltb t.most t.least || not (within 1 1000 t.least) || not (within 1 1000 t.most)) (not (within 1 10000 t.gap)) e in
    let q = none_of (ltb t.most t.least || not (within 1 1000 t.least)) (not (within 1 1000 t.most)) p.0 in
    let r = none_of (ltb t.most t.least) (not (within 1 1000 t.least)) q.0 in
    let l = together.both (leb 1 t.least) (leb t.least 1000) (not-false (within 1 1000 t.least) r.1) in
    let g = together.both (leb 1 t.gap) (leb t.gap 10000) (not-false (within 1 10000 t.gap) p.1) in
    let m = together.both (leb 1 t.most) (leb t.most 1000) (not-false (within 1 1000 t.most) q.1) in
    record {
      some = leb-true 1 t.gap g.0;
      gap = leb-true t.gap 10000 g.1;
      least = leb-true 1 t.least l.0;
      most = leb-true t.most 1000 m.1;
    }

-- An idle sample is the byte 0.
pub idle-kind : (x : ℕ) → is_idle (sample_of x) ≡ eqb x 0
idle-kind x =
    of-pick (λ (k : Sample). is_idle k ≡ eqb x 0) (eqb x 0) idle (pick (eqb x 1) mark (pick (eqb x 2) space (pick (eqb x 3) both foreign))) (λ e. sym e)
    (λ e. of-pick (λ (k : Sample). is_idle k ≡ eqb x 0) (eqb x 1) mark (pick (eqb x 2) space (pick (eqb x 3) both foreign)) (λ f. sym e)
    (λ f. of-pick (λ (k : Sample). is_idle k ≡ eqb x 0) (eqb x 2) space (pick (eqb x 3) both foreign) (λ g. sym e)
    (λ g. of-pick (λ (k : Sample). is_idle k ≡ eqb x 0) (eqb x 3) both foreign (λ h. sym e) (λ h. sym e))))

idle-byte : (x : ℕ) → sample_of x ≡ idle → x ≡ 0
idle-byte x e = eqb-true x 0 (sym (idle-kind x) ∙ ap is_idle e)

pub record Still (t : Timing) (s : SoFar) (xs : List ℕ) (h : Hearing) : Type 0 where
  pub left : SoFar
  pub ok : Legal left
  pub quiet : Quiet t s (map sample_of xs) left
  pub is : h ≡ hearing nothing left (length xs)

pub record Shut (t : Timing) (s : SoFar) (xs : List ℕ) (h : Hearing) : Type 0 where
  pub before : List ℕ
  pub more : List ℕ
  pub at : SoFar
  pub quiet : Quiet t s (map sample_of before) at
  pub whole : xs ≡ before ++ 0 ∷ more
  pub closed : closes t (after t at idle) ≡ true
  pub closing : Closing (after t at idle)
  pub is : h ≡ hearing (told_of (after t at idle)) rest_state (length before + 1)

pub data Ends (t : Timing) (s : SoFar) (xs : List ℕ) (h : Hearing) : Type 0 where
  still_open : Still t s xs h → Ends t s xs h
  closed_at : Shut t s xs h → Ends t s xs h

module _ (t : Timing) (g : Good t) where
  -- One quiet sample before.
  further : (s : SoFar) (x : ℕ) (xs : List ℕ) (h : Hearing) → closes t (after t s (sample_of x)) ≡ false
      → Ends t (after t s (sample_of x)) xs h → Ends t s (x ∷ xs) (later 1 h)
  further s x xs h e (still_open r) =
      still_open (record { left = r.left; ok = r.ok; quiet = (e, r.quiet); is = ap (later 1) r.is ∙ ap (hearing nothing r.left) (omega arith) })
  further s x xs h e (closed_at r) =
      closed_at
      (record {
        before = x ∷ r.before;
        more = r.more;
        at = r.at;
        quiet = (e, r.quiet);
        whole = ap (λ (ys : List ℕ). x ∷ ys) r.whole;
        closed = r.closed;
        closing = r.closing;
        is = ap (later 1) r.is ∙ ap (hearing (told_of (after t r.at idle)) rest_state) (omega arith);
      })

  first : (s : SoFar) (x : ℕ) (xs : List ℕ) (k : Sample) → sample_of x ≡ k → k ≡ idle → closes t (after t s k) ≡ true → Closing (after t s k)
      → Shut t s (x ∷ xs) (hearing (told_of (after t s k)) rest_state 1)
  first s x xs k p q e c =
      record {
        before = [];
        more = xs;
        at = s;
        quiet = refl;
        whole = ap (λ (y : ℕ). y ∷ xs) (idle-byte x (p ∙ q));
        closed = rw q at e;
        closing = rw q at c;
        is = rw q;
      }

  pub split : (s : SoFar) → Legal s → (xs : List ℕ) → Ends t s xs (hear t s xs)
  unfolding hear
  split s h [] = still_open (record { left = s; ok = h; quiet = refl; is = refl })
  split s h (x ∷ xs) = go (step t g.some g.gap h (sample_of x)) (λ l. split (after t s (sample_of x)) l xs)
    where
      go : Stepped t (sample_of x) (after t s (sample_of x)) → (Legal (after t s (sample_of x)) → Ends t (after t s (sample_of x)) xs (hear t (after t s (sample_of x)) xs))
          → Ends t s (x ∷ xs) (hear t s (x ∷ xs))
      go (on e l) ends = rw e (further s x xs (hear t (after t s (sample_of x)) xs) e (ends l))
      go (shut e k c) ends = rw e (closed_at (first s x xs (sample_of x) refl k e c))

-- What the state means is legal.
pub meant-legal : (s : SoFar) → Legal (meant s)
unfolding meant
meant-legal s = of-pick Legal (legal s) s (spoilt_by 21 0) (λ e. view s e) (λ e. spoilt 21 0 (omega arith) (omega arith) (omega arith))

pub meant_itself : (s : SoFar) → legal s ≡ true → meant s ≡ s
unfolding meant
meant_itself s e = rw e

-- An answer is the hearing's.
pub heard-by : (s : SoFar) (least most gap : ℕ) (xs : List ℕ) (a : LinesTold) → bad_timing (timing least most gap) ≡ false
    → HearsLines s least most gap xs a → a ≡ answered (hear (timing least most gap) (meant s) xs)
unfolding lines_answer timing_fault first_of
heard-by s least most gap xs a e c = c.answers ∙ rw e
