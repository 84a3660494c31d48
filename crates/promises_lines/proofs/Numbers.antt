-- The numbers. Whether a byte above 3 came is what the state's 22 remembers: one step after another, quiet samples keep it, and the close tells it.
use mathlib.Core.Path.{◌≡◌, refl, sym, ap, subst, ◌∙◌}
use mathlib.Core.Bool.{Bool, true, false, ◌&&◌, ◌||◌, or_assoc, or-false}
use mathlib.Core.List.{List, [], ◌∷◌, ◌++◌, map}
use Prim.Native.Nat.{ℕ, zero, suc, ◌+◌, ◌≤◌, min}
use native.Mathlib.Omega.{arith}
use lib.Dec.{eqb, ltb}
use lib.ListN.{length, take}
use lib.Seq.{take-append-add}
use borrow.Author.Tests.{eqb-true, eqb-false, ne_eqb, lt-ltb}
use Rattle.frame.specs.Pick.{pick, within}
use Rattle.frame.specs.Faults.{first_of}
use Rattle.lines.specs.declared.SoFar.{SoFar}
use Rattle.lines.specs.declared.LinesTold.{LinesTold}
use Rattle.lines.specs.Sample.{Sample, idle, mark, space, both, foreign, sample_of}
use Rattle.lines.specs.Timing.{Timing, timing, bad_timing, timing_fault}
use Rattle.lines.specs.SoFar.{so_far, rest_state, spoilt_by, meant}
use Rattle.lines.specs.Step.{with_bit, run_ended, longer_idle, after_idle, after_low, after_both, after, closes}
use Rattle.lines.specs.Hearing.{Hearing, hearing, told_of, number_told, hear}
use Rattle.lines.specs.Calls.{answered, lines_answer, HearsLines}
use Rattle.lines.proofs.Cases.{of-pick}
use Rattle.promises_lines.specs.History.{bits_of, said}
use Rattle.promises_lines.specs.Runs.{is_foreign}
use Rattle.promises_lines.specs.Numbers.{one_above_3, LineNumbers}
use Rattle.promises_lines.proofs.Legal.{Legal, rest, between, in-run, spoilt, Closing, message, report, Stepped, on, shut, step, view}
use Rattle.promises_lines.proofs.Quiet.{Quiet}
use Rattle.promises_lines.proofs.Ends.{Good, Ends, still_open, closed_at, good, split, meant-legal, meant_itself, heard-by}

abbrev pub marked : SoFar → Bool
marked s = eqb s.fault 22

-- One step remembers.
module _ (t : Timing) where
  ended : (bits run count line : ℕ) → marked (run_ended t.least t.most (so_far bits run count line 0)) ≡ false
  unfolding run_ended with_bit
  ended bits run count line =
      of-pick (λ (n : SoFar). marked n ≡ false) (within t.least t.most run && ltb count 64) (with_bit (so_far bits run count line 0)) (spoilt_by 21 1) (λ e. refl) (λ e. refl)

  still : {s : SoFar} → Legal s → marked (after_idle t.least t.most s) ≡ marked s
  unfolding after_idle longer_idle
  still rest = refl
  still (between bits run count c clear r u) = rw (ne_eqb count 0 (omega arith))
  still (in-run bits run count l a b clear r u) = rw (ne_eqb l 0 (omega arith)) (ended bits run count l)
  still (spoilt number run a b u) = rw (ne_eqb number 0 (omega arith))

  low : (line : ℕ) {s : SoFar} → Legal s → marked (after_low line s) ≡ marked s
  unfolding after_low
  low line rest = refl
  low line (between bits run count c clear r u) = refl
  low line (in-run bits run count l a b clear r u) =
      rw (ne_eqb l 0 (omega arith))
      (of-pick (λ (n : SoFar). marked n ≡ false) (eqb l line) (so_far bits (min (run + 1) 1001) count line 0) (spoilt_by 21 0) (λ e. refl) (λ e. refl))
  low line (spoilt number run a b u) = rw (ne_eqb number 0 (omega arith))

  pub remembers : {s : SoFar} → Legal s → (k : Sample) → marked (after t s k) ≡ (marked s || is_foreign k)
  unfolding after_both
  remembers {s} h idle = still h ∙ sym (or-false (marked s))
  remembers {s} h mark = low 1 h ∙ sym (or-false (marked s))
  remembers {s} h space = low 2 h ∙ sym (or-false (marked s))
  remembers {s} h both = go (marked s)
    where
      go : (b : Bool) → eqb (pick b 22 21) 22 ≡ (b || false)
      go true = refl
      go false = refl
  remembers {s} h foreign = go (marked s)
    where
      go : (b : Bool) → eqb (pick b 22 22) 22 ≡ (b || true)
      go true = refl
      go false = refl

-- A byte above 3 is a foreign sample.
foreign-kind : (x : ℕ) → is_foreign (sample_of x) ≡ ltb 3 x
foreign-kind zero = refl
foreign-kind (suc zero) = refl
foreign-kind (suc (suc zero)) = refl
foreign-kind (suc (suc (suc zero))) = refl
foreign-kind (suc (suc (suc (suc x)))) =
    let n : ℕ = suc (suc (suc (suc x))) in
    rw (ne_eqb n 0 (omega arith), ne_eqb n 1 (omega arith), ne_eqb n 2 (omega arith), ne_eqb n 3 (omega arith), lt-ltb 3 n (omega arith))

module _ (t : Timing) (g : Good t) where
  -- Quiet samples remember, and leave a legal state.
  quiet-marked : (s n : SoFar) → Legal s → (xs : List ℕ) → Quiet t s (map sample_of xs) n → (marked n ≡ (marked s || one_above_3 xs)) × Legal n
  unfolding one_above_3
  quiet-marked s n l [] q = (ap marked (sym q) ∙ sym (or-false (marked s)), subst Legal q l)
  quiet-marked s n l (x ∷ xs) q =
      let m : SoFar = after t s (sample_of x) in
      let r = quiet-marked m n (goes_on (step t g.some g.gap l (sample_of x)) q.0) xs q.1 in
      let one : marked m ≡ (marked s || ltb 3 x) = remembers t l (sample_of x) ∙ ap (λ (b : Bool). marked s || b) (foreign-kind x) in
      (r.0 ∙ ap (λ (b : Bool). b || one_above_3 xs) one ∙ or_assoc (marked s) (ltb 3 x) (one_above_3 xs), r.1)
    where
      goes_on : {k : Sample} {m : SoFar} → Stepped t k m → closes t m ≡ false → Legal m
      goes_on (on e l) f = l
      goes_on (shut e k c) f = absurd (let z : ◌≡◌ {A = ℕ} 0 1 = cc in omega arith)

above-append : (xs ys : List ℕ) → one_above_3 (xs ++ ys) ≡ (one_above_3 xs || one_above_3 ys)
unfolding one_above_3
above-append [] ys = refl
above-append (x ∷ xs) ys = ap (λ (b : Bool). ltb 3 x || b) (above-append xs ys) ∙ sym (or_assoc (ltb 3 x) (one_above_3 xs) (one_above_3 ys))

-- The number of a report is 21 or 22.
either_number : (n : ℕ) → 21 ≤ n → n ≤ 22 → n ≡ pick (eqb n 22) 22 21
either_number n p q = of-pick (λ (m : ℕ). n ≡ m) (eqb n 22) 22 21 (λ e. eqb-true n 22 e) (λ e. let other : n ≡ 22 → ⊥ = eqb-false n 22 e in omega arith)

reported : {n : SoFar} → Closing n → (taken : ℕ) → (number_told (told_of n) ≡ 0 → ⊥)
    → (number_told (told_of n) ≡ pick (marked n) 22 21) × ((said (answered (hearing (told_of n) rest_state taken))).bits ≡ [])
unfolding bits_of
reported (message bits run count p c) taken e = absurd (e refl)
reported (report number run p q) taken e = (rw (ne_eqb number 0 (omega arith)) (either_number number p q), rw (ne_eqb number 0 (omega arith)))

not-20 : {n : SoFar} → Closing n → number_told (told_of n) ≡ 20 → ⊥
not-20 (message bits run count p c) e = omega arith
not-20 (report number run p q) e = let f : number ≡ 20 = rw (ne_eqb number 0 (omega arith)) at e in omega arith

module _ (t : Timing) (g : Good t) (s : SoFar) (l : Legal s) (xs : List ℕ) (h : Hearing) where
  spoiled-by : Ends t s xs h → ((answered h).number ≡ 0 → ⊥)
      → ((answered h).number ≡ pick (marked s || one_above_3 (take h.taken xs)) 22 21) × ((said (answered h)).bits ≡ [])
  unfolding one_above_3
  spoiled-by (still_open r) e = absurd (e (rw r.is))
  spoiled-by (closed_at r) e =
      let b : List ℕ = r.before in
      let taken : take (length b + 1) xs ≡ b ++ 0 ∷ [] = ap (take (length b + 1)) r.whole ∙ take-append-add b (0 ∷ r.more) 1 in
      let q = quiet-marked t g s r.at l b r.quiet in
      let came : marked (after t r.at idle) ≡ (marked s || one_above_3 (take (length b + 1) xs))
      = remembers t q.1 idle ∙ ap (λ (x : Bool). x || false) q.0 ∙ or_assoc (marked s) (one_above_3 b) false
      ∙ ap (λ (x : Bool). marked s || x) (sym (ap one_above_3 taken ∙ above-append b (0 ∷ []))) in
      rw r.is
      (let n = reported r.closing (length b + 1) (rw r.is at e) in
      (n.0 ∙ ap (λ (x : Bool). pick x 22 21) came, n.1))

  never-20 : Ends t s xs h → (answered h).number ≡ 20 → ⊥
  never-20 (still_open r) e = let z : ◌≡◌ {A = ℕ} 0 20 = rw r.is at e in omega arith
  never-20 (closed_at r) e = not-20 r.closing (rw r.is at e)

refused : (s : SoFar) (least most gap : ℕ) (xs : List ℕ) (a : LinesTold) → HearsLines s least most gap xs a → bad_timing (timing least most gap) ≡ true
    → (a.number ≡ 20) × (a.taken ≡ 0) × (a.so_far ≡ s) × ((said a).bits ≡ [])
unfolding lines_answer timing_fault first_of bits_of
refused s least most gap xs a c e = rw (c.answers, e) (refl, refl, refl, refl)

pub numbers : LineNumbers
numbers =
    record {
      bad = refused;
      good = λ s least most gap xs a c e.
          let t = timing least most gap in
          rw (heard-by s least most gap xs a e c)
          (never-20 t (good t e) (meant s) (meant-legal s) xs (hear t (meant s) xs) (split t (good t e) (meant s) (meant-legal s) xs));
      spoiled = λ s least most gap xs a e l c.
          let t = timing least most gap in
          rw (heard-by s least most gap xs a e c, meant_itself s l)
          (spoiled-by t (good t e) s (view s l) xs (hear t s xs) (split t (good t e) s (view s l) xs));
    }
