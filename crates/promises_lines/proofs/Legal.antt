-- The states that calls leave, as a list of cases, and what one step makes of each: it goes on in such a state, or an idle sample closes a message of one
-- bit or more, or a spoiled one.
use mathlib.Core.Path.{◌≡◌, refl, sym, subst, ap}
use mathlib.Core.Bool.{Bool, true, false, ◌&&◌, ◌||◌}
use Prim.Native.Nat.{ℕ, ◌+◌, ◌-◌, ◌%◌, ◌^◌, ◌<◌, ◌≤◌, min}
use native.Mathlib.Omega.{arith}
use native.Mathlib.Nat.{zero-mod}
use lib.Dec.{eqb, leb, ltb}
use borrow.Author.Tests.{eqb-true, leb-true, leb-false, ltb-true, eq-eqb, ne_eqb, le-leb, lt-leb}
use Rattle.frame.specs.Pick.{within}
use Rattle.frame.specs.Line as frame
use Rattle.lines.specs.declared.SoFar.{SoFar}
use Rattle.lines.specs.Sample.{Sample, idle, mark, space, both, foreign}
use Rattle.lines.specs.Timing.{Timing}
use Rattle.lines.specs.SoFar.{so_far, rest_state, spoilt_by, has_no_bits, pads_clear, is_rest, is_between, is_in_run, is_spoilt, legal}
use Rattle.lines.specs.Step.{with_bit, run_ended, longer_idle, after_idle, after_low, after_both, after, closes}
use Rattle.lines.proofs.Cases.{of-pick, either}
use Rattle.frame.proofs.Both as together
use Rattle.promises_lines.proofs.Words.{Clear, clear-more}

pub data Legal : SoFar → Type 0 where
  rest : Legal rest_state
  between : (bits run count : ℕ) → 1 ≤ count → Clear bits count → 1 ≤ run → run ≤ 9999 → Legal (so_far bits run count 0 0)
  in-run : (bits run count line : ℕ) → 1 ≤ line → line ≤ 2 → Clear bits count → 1 ≤ run → run ≤ 1001 → Legal (so_far bits run count line 0)
  spoilt : (number run : ℕ) → 21 ≤ number → number ≤ 22 → run ≤ 9999 → Legal (spoilt_by number run)

-- Where a message closes.
pub data Closing : SoFar → Type 0 where
  message : (bits run count : ℕ) → 1 ≤ count → Clear bits count → Closing (so_far bits run count 0 0)
  report : (number run : ℕ) → 21 ≤ number → number ≤ 22 → Closing (spoilt_by number run)

pub data Stepped (t : Timing) (k : Sample) (n : SoFar) : Type 0 where
  on : closes t n ≡ false → Legal n → Stepped t k n
  shut : closes t n ≡ true → k ≡ idle → Closing n → Stepped t k n

by-test : {A : Type 0} (b : Bool) → (b ≡ true → A) → (b ≡ false → A) → A
by-test true f g = f refl
by-test false f g = g refl

mark-less : (b : Bool) → frame.mark b < 2
mark-less true = omega arith
mark-less false = omega arith

pub no_bits : Clear 0 0
no_bits = record { small = omega arith; pads = zero-mod (2 ^ 64) }

module _ (t : Timing) (some : 1 ≤ t.gap) (gap : t.gap ≤ 10000) where
  -- An idle run of a message, or of a spoiled one.
  message-idle : (bits run count : ℕ) → 1 ≤ count → Clear bits count → 1 ≤ run → Stepped t idle (so_far bits run count 0 0)
  message-idle bits run count p c q =
      by-test (leb t.gap run) (λ e. shut e refl (message bits run count p c))
      (λ e. on e (between bits run count p c q (omega (arith, leb-false t.gap run e))))

  spoilt-idle : (number run : ℕ) → 21 ≤ number → number ≤ 22 → Stepped t idle (spoilt_by number run)
  spoilt-idle number run p q =
      by-test (leb t.gap run) (λ e. shut e refl (report number run p q))
      (λ e. on e (spoilt number run p q (omega (arith, leb-false t.gap run e))))

  -- A spoiled message without idle.
  spoilt-now : (k : Sample) (number : ℕ) → 21 ≤ number → number ≤ 22 → Stepped t k (spoilt_by number 0)
  spoilt-now k number p q = on (lt-leb t.gap 0 (omega arith)) (spoilt number 0 p q (omega arith))

  starts : (k : Sample) (bits count line : ℕ) → 1 ≤ line → line ≤ 2 → Clear bits count → Stepped t k (so_far bits 1 count line 0)
  starts k bits count line p q c =
      on (ap (λ (b : Bool). b && leb t.gap 1) (ne_eqb line 0 (omega arith))) (in-run bits 1 count line p q c (omega arith) (omega arith))

  goes_on : (k : Sample) (bits run count line : ℕ) → 1 ≤ line → line ≤ 2 → Clear bits count → 1 ≤ run → Stepped t k (so_far bits (min (run + 1) 1001) count line 0)
  goes_on k bits run count line p q c r =
      on (ap (λ (b : Bool). b && leb t.gap (min (run + 1) 1001)) (ne_eqb line 0 (omega arith)))
      (in-run bits (min (run + 1) 1001) count line p q c (omega arith) (omega arith))

  -- One line low, by the state.
  low : (k : Sample) (line : ℕ) → 1 ≤ line → line ≤ 2 → {s : SoFar} → Legal s → Stepped t k (after_low line s)
  unfolding after_low
  low k line p q rest = starts k 0 0 line p q no_bits
  low k line p q (between bits run count c clear r u) = starts k bits count line p q clear
  low k line p q (in-run bits run count l a b clear r u) =
      rw (ne_eqb l 0 (omega arith))
      (of-pick (Stepped t k) (eqb l line) (so_far bits (min (run + 1) 1001) count line 0) (spoilt_by 21 0)
      (λ e. goes_on k bits run count line p q clear r) (λ e. spoilt-now k 21 (omega arith) (omega arith)))
  low k line p q (spoilt number run a b u) = rw (ne_eqb number 0 (omega arith)) (spoilt-now k number a b)

  both-low : (k : Sample) (number : ℕ) → 21 ≤ number → number ≤ 22 → (s : SoFar) → Stepped t k (after_both number s)
  unfolding after_both
  both-low k number p q s =
      of-pick (λ (n : ℕ). Stepped t k (spoilt_by n 0)) (eqb s.fault 22) 22 number (λ e. spoilt-now k 22 (omega arith) (omega arith)) (λ e. spoilt-now k number p q)

  ended : (bits run count line : ℕ) → Clear bits count → Stepped t idle (run_ended t.least t.most (so_far bits run count line 0))
  unfolding run_ended with_bit
  ended bits run count line clear =
      of-pick (Stepped t idle) (within t.least t.most run && ltb count 64) (with_bit (so_far bits run count line 0)) (spoilt_by 21 1)
      (λ e.
      let more : count < 64 = ltb-true count 64 (together.both (within t.least t.most run) (ltb count 64) e).1 in
      message-idle (bits + frame.put (frame.mark (eqb line 1)) (count + 1)) 1 (count + 1) (omega arith) (clear-more bits count more clear (frame.mark (eqb line 1))) (omega arith))
      (λ e. spoilt-idle 21 1 (omega arith) (omega arith))

  still : {s : SoFar} → Legal s → Stepped t idle (after_idle t.least t.most s)
  unfolding after_idle longer_idle
  still rest = on (lt-leb t.gap 0 (omega arith)) rest
  still (between bits run count c clear r u) =
      rw (ne_eqb count 0 (omega arith)) (message-idle bits (run + 1) count c clear (omega arith))
  still (in-run bits run count l a b clear r u) = rw (ne_eqb l 0 (omega arith)) (ended bits run count l clear)
  still (spoilt number run a b u) = rw (ne_eqb number 0 (omega arith)) (spoilt-idle number (run + 1) a b)

  pub step : {s : SoFar} → Legal s → (k : Sample) → Stepped t k (after t s k)
  step h idle = still h
  step h mark = low mark 1 (omega arith) (omega arith) h
  step h space = low space 2 (omega arith) (omega arith) h
  step {s} h both = both-low both 21 (omega arith) (omega arith) s
  step {s} h foreign = both-low foreign 22 (omega arith) (omega arith) s

-- The cases are what the test of the definitions finds.
same : (s : SoFar) (bits run count line fault : ℕ) → s.bits ≡ bits → s.run ≡ run → s.count ≡ count → s.line ≡ line → s.fault ≡ fault
    → s ≡ so_far bits run count line fault
same s bits run count line fault p q r u v = λ i. so_far (p i) (q i) (r i) (u i) (v i)

in-range : (low high n : ℕ) → within low high n ≡ true → (low ≤ n) × (n ≤ high)
in-range low high n e =
    let b = together.both (leb low n) (leb n high) e in (leb-true low n b.0, leb-true n high b.1)

clear_of : (s : SoFar) → pads_clear s ≡ true → Clear s.bits s.count
clear_of s e =
    let b = together.both (leb s.count 64) (eqb (s.bits % 2 ^ (64 - s.count)) 0) e in
    record { small = leb-true s.count 64 b.0; pads = eqb-true (s.bits % 2 ^ (64 - s.count)) 0 b.1 }

pub view : (s : SoFar) → legal s ≡ true → Legal s
unfolding legal
view s e =
    either (is_rest s || is_between s || is_in_run s) (is_spoilt s) e
    (λ e. either (is_rest s || is_between s) (is_in_run s) e
    (λ e. either (is_rest s) (is_between s) e at_rest idle-after) running) broken
  where
    at_rest : is_rest s ≡ true → Legal s
    at_rest e =
        let p = together.both (eqb s.fault 0 && eqb s.line 0 && has_no_bits s) (eqb s.run 0) e in
        let q = together.both (eqb s.fault 0 && eqb s.line 0) (has_no_bits s) p.0 in
        let r = together.both (eqb s.fault 0) (eqb s.line 0) q.0 in
        let n = together.both (eqb s.bits 0) (eqb s.count 0) q.1 in
        subst Legal
        (sym (same s 0 0 0 0 0 (eqb-true s.bits 0 n.0) (eqb-true s.run 0 p.1) (eqb-true s.count 0 n.1) (eqb-true s.line 0 r.1) (eqb-true s.fault 0 r.0)))
        rest

    idle-after : is_between s ≡ true → Legal s
    idle-after e =
        let p = together.both (eqb s.fault 0 && eqb s.line 0 && leb 1 s.count && pads_clear s) (within 1 9999 s.run) e in
        let q = together.both (eqb s.fault 0 && eqb s.line 0 && leb 1 s.count) (pads_clear s) p.0 in
        let r = together.both (eqb s.fault 0 && eqb s.line 0) (leb 1 s.count) q.0 in
        let u = together.both (eqb s.fault 0) (eqb s.line 0) r.0 in
        let w = in-range 1 9999 s.run p.1 in
        subst Legal
        (sym (same s s.bits s.run s.count 0 0 refl refl refl (eqb-true s.line 0 u.1) (eqb-true s.fault 0 u.0)))
        (between s.bits s.run s.count (leb-true 1 s.count r.1) (clear_of s q.1) w.0 w.1)

    running : is_in_run s ≡ true → Legal s
    running e =
        let p = together.both (eqb s.fault 0 && within 1 2 s.line && pads_clear s) (within 1 1001 s.run) e in
        let q = together.both (eqb s.fault 0 && within 1 2 s.line) (pads_clear s) p.0 in
        let r = together.both (eqb s.fault 0) (within 1 2 s.line) q.0 in
        let l = in-range 1 2 s.line r.1 in
        let w = in-range 1 1001 s.run p.1 in
        subst Legal
        (sym (same s s.bits s.run s.count s.line 0 refl refl refl refl (eqb-true s.fault 0 r.0)))
        (in-run s.bits s.run s.count s.line l.0 l.1 (clear_of s q.1) w.0 w.1)

    broken : is_spoilt s ≡ true → Legal s
    broken e =
        let p = together.both (within 21 22 s.fault && eqb s.line 0 && has_no_bits s) (leb s.run 9999) e in
        let q = together.both (within 21 22 s.fault && eqb s.line 0) (has_no_bits s) p.0 in
        let r = together.both (within 21 22 s.fault) (eqb s.line 0) q.0 in
        let n = together.both (eqb s.bits 0) (eqb s.count 0) q.1 in
        let f = in-range 21 22 s.fault r.0 in
        subst Legal
        (sym (same s 0 s.run 0 0 s.fault (eqb-true s.bits 0 n.0) refl (eqb-true s.count 0 n.1) (eqb-true s.line 0 r.1) refl))
        (spoilt s.fault s.run f.0 f.1 (leb-true s.run 9999 p.1))

one_of : (a b c d : Bool) → (b ≡ true → a || b || c || d ≡ true) × (c ≡ true → a || b || c || d ≡ true) × (d ≡ true → a || b || c || d ≡ true)
one_of true b c d = (λ e. refl, λ e. refl, λ e. refl)
one_of false true c d = (λ e. refl, λ e. refl, λ e. refl)
one_of false false true d = (λ e. refl, λ e. refl, λ e. refl)
one_of false false false d = (λ e. ap (λ (x : Bool). x || d) e, λ e. ap (λ (x : Bool). x || d) e, λ e. e)

pub is-legal : {s : SoFar} → Legal s → legal s ≡ true
unfolding legal
is-legal rest = refl
is-legal (between bits run count p clear q r) =
    let s : SoFar = so_far bits run count 0 0 in
    (one_of (is_rest s) (is_between s) (is_in_run s) (is_spoilt s)).0
    (rw (le-leb 1 count p, le-leb count 64 clear.small, eq-eqb (bits % 2 ^ (64 - count)) 0 clear.pads, le-leb 1 run q, le-leb run 9999 r))
is-legal (in-run bits run count line a b clear q r) =
    let s : SoFar = so_far bits run count line 0 in
    (one_of (is_rest s) (is_between s) (is_in_run s) (is_spoilt s)).1
    (rw (le-leb 1 line a, le-leb line 2 b, le-leb count 64 clear.small, eq-eqb (bits % 2 ^ (64 - count)) 0 clear.pads, le-leb 1 run q, le-leb run 1001 r))
is-legal (spoilt number run a b r) =
    let s : SoFar = spoilt_by number run in
    (one_of (is_rest s) (is_between s) (is_in_run s) (is_spoilt s)).2 (rw (le-leb 21 number a, le-leb number 22 b, le-leb run 9999 r))
