-- What settles a try, by the runs of its samples: samples that go on close nothing, so that their runs tell nothing; the sample behind them closes a message, which is what
-- the runs tell, or it is the `wait`th of idle samples, or the `longest`th.
use mathlib.Core.Path.{◌≡◌, refl, sym, ap, ap₂, subst, ◌∙◌}
use mathlib.Core.Bool.{Bool, true, false, ◌&&◌, ◌||◌, true≢false, and_assoc, and_comm, or_assoc, or_comm}
use mathlib.Core.List.{List, [], ◌∷◌, ◌++◌, map, append-nil}
use Prim.Native.Nat.{ℕ, zero, suc, ◌+◌, ◌<◌, ◌≤◌}
use native.Mathlib.Omega.{arith}
use lib.Dec.{leb}
use lib.ListN.{length, take, replicate, length-append}
use lib.Seq.{take-append-le}
use borrow.Author.Tests.{leb-true, leb-false, le-leb}
use Rattle.frame.specs.Pick.{pick}
use Rattle.frame.proofs.Both.{both_left, both_right}
use Rattle.lines.specs.declared.SoFar.{SoFar}
use Rattle.lines.specs.Sample.{Sample, sample_of}
use Rattle.lines.specs.SoFar.{rest_state, is_rest}
use Rattle.lines.specs.Step.{closes}
use Rattle.lines.specs.Hearing.{MessageTold, nothing, told_of, number_told, count_told, bytes_told}
use Rattle.lines.proofs.Cases.{none_of}
use Rattle.polling.specs.declared.Pace.{Pace}
use Rattle.polling.specs.Pace.{timing_of, bad_pace}
use Rattle.polling.specs.Listening.{given_up}
use Rattle.promises_lines.specs.History.{bits_of}
use Rattle.promises_lines.specs.Runs.{Run, spelled, Apart, InRuns, is_idle, all_idle, is_foreign, foreign_in, by_runs}
use Rattle.promises_lines.proofs.Legal.{Legal, rest}
use Rattle.promises_lines.proofs.Ends.{good}
use Rattle.promises_lines.proofs.Streams.{said_of, tells, quiet-tells, quiet-first, map-append}
use Rattle.promises_lines.proofs.Numbers.{marked, remembers}
use Rattle.promises_lines.proofs.Runs.{tells_as}
use Rattle.promises_polling.specs.Answers.{BySamples, closed, silent, given-up, NotYet, Settles}
use Rattle.promises_polling.proofs.Path.{silent_now, ending, told_at}
use Rattle.promises_polling.proofs.Heard.{next, timing-fine}
use Rattle.promises_polling.proofs.Paces.{Fine, fine-pace}
use Rattle.promises_polling.proofs.Rest.{rest-step}
use Rattle.promises_polling.proofs.Ears.{Going, going-part, going-quiet, all_idle_in, foreign_among, going-keeps, going-last}

-- Runs and the samples that they spell.
size_of : (r : Run) (rs : List Run) → Apart r rs → 1 ≤ r.size
size_of r [] a = a
size_of r (q ∷ rs) a = a.0

and-twice : (a b : Bool) → (a && (a && b)) ≡ (a && b)
and-twice true b = refl
and-twice false b = refl

or-twice : (a b : Bool) → (a || (a || b)) ≡ (a || b)
or-twice true b = refl
or-twice false b = refl

idle-run : (n : ℕ) (k : Sample) (ks : List Sample) → 1 ≤ n → all_idle_in (replicate n k ++ ks) ≡ (is_idle k && all_idle_in ks)
unfolding all_idle_in
idle-run zero k ks h = absurd (omega arith)
idle-run (suc zero) k ks h = refl
idle-run (suc (suc n)) k ks h = ap (λ (b : Bool). is_idle k && b) (idle-run (suc n) k ks (omega arith)) ∙ and-twice (is_idle k) (all_idle_in ks)

foreign-run : (n : ℕ) (k : Sample) (ks : List Sample) → 1 ≤ n → foreign_among (replicate n k ++ ks) ≡ (is_foreign k || foreign_among ks)
unfolding foreign_among
foreign-run zero k ks h = absurd (omega arith)
foreign-run (suc zero) k ks h = refl
foreign-run (suc (suc n)) k ks h = ap (λ (b : Bool). is_foreign k || b) (foreign-run (suc n) k ks (omega arith)) ∙ or-twice (is_foreign k) (foreign_among ks)

idle-runs : (rs : List Run) → InRuns rs → all_idle rs ≡ all_idle_in (spelled rs)
unfolding all_idle all_idle_in spelled
idle-runs [] i = refl
idle-runs (r ∷ rs) i =
    ap (λ (b : Bool). b && is_idle r.kind) (idle-runs rs i.1) ∙ and_comm (all_idle_in (spelled rs)) (is_idle r.kind)
    ∙ sym (idle-run r.size r.kind (spelled rs) (size_of r rs i.0))

foreign-runs : (rs : List Run) → InRuns rs → foreign_in rs ≡ foreign_among (spelled rs)
unfolding foreign_in foreign_among spelled
foreign-runs [] i = refl
foreign-runs (r ∷ rs) i =
    ap (λ (b : Bool). b || is_foreign r.kind) (foreign-runs rs i.1) ∙ or_comm (foreign_among (spelled rs)) (is_foreign r.kind)
    ∙ sym (foreign-run r.size r.kind (spelled rs) (size_of r rs i.0))

-- One sample behind others.
idle-snoc : (ks : List Sample) (k : Sample) → all_idle_in (ks ++ k ∷ []) ≡ (all_idle_in ks && is_idle k)
unfolding all_idle_in
idle-snoc [] k = and_comm (is_idle k) true
idle-snoc (j ∷ ks) k = ap (λ (b : Bool). is_idle j && b) (idle-snoc ks k) ∙ sym (and_assoc (is_idle j) (all_idle_in ks) (is_idle k))

foreign-snoc : (ks : List Sample) (k : Sample) → foreign_among (ks ++ k ∷ []) ≡ (foreign_among ks || is_foreign k)
unfolding foreign_among
foreign-snoc [] k = or_comm (is_foreign k) false
foreign-snoc (j ∷ ks) k = ap (λ (b : Bool). is_foreign j || b) (foreign-snoc ks k) ∙ sym (or_assoc (is_foreign j) (foreign_among ks) (is_foreign k))

not-rest : (a b : Bool) → (a && b) ≡ false → b ≡ true → a ≡ false
not-rest true b e f = absurd (true≢false (sym f ∙ e))
not-rest false b e f = refl

module _ (p : Pace) (fine : bad_pace p ≡ false) where
  -- What runs tell is what their samples do.
  runs-tell : (ys : List ℕ) (rs : List Run) → InRuns rs → map sample_of ys ≡ spelled rs → by_runs (timing_of p) [] rs ≡ tells (timing_of p) rest_state (map sample_of ys)
  runs-tell ys rs i e = sym (ap (tells (timing_of p) rest_state) e ∙ tells_as (timing_of p) (good (timing_of p) (timing-fine p fine)) rs i)

  -- Nothing settled yet.
  not_yet : (ys : List ℕ) (m : SoFar) → Going p rest_state 0 ys m → (rs : List Run) → InRuns rs → map sample_of ys ≡ spelled rs → NotYet p ys rs
  not_yet ys m g rs i e =
      record {
        none_closed = runs-tell ys rs i e ∙ quiet-tells (timing_of p) rest_state m (map sample_of ys) (going-quiet p rest_state m 0 ys g);
        in-time = before-longest (length ys) refl;
        not_silent = λ h. idle-runs rs i ∙ ap all_idle_in (sym e) ∙ sym (going-keeps p fine rest_state m 0 rest ys g).1 ∙ stirred h;
      }
    where
      f : Fine p
      f = fine-pace p fine

      not-ending : 1 ≤ length ys → (silent_now p m (length ys) ≡ false) × (leb p.longest (length ys) ≡ false)
      not-ending h =
          let same : 0 + length ys ≡ length ys = omega arith in
          let a = none_of (closes (timing_of p) m || silent_now p m (length ys)) (leb p.longest (length ys)) (subst (λ (k : ℕ). ending p m k ≡ false) same (going-last p rest_state m 0 ys g h)) in
          ((none_of (closes (timing_of p) m) (silent_now p m (length ys)) a.0).1, a.1)

      before-longest : (k : ℕ) → length ys ≡ k → length ys < p.longest
      before-longest zero z = let a = f.wait in let b = f.longest in omega (arith, z, a, b)
      before-longest (suc k) z = leb-false p.longest (length ys) (not-ending (omega arith)).1

      stirred : p.wait ≤ length ys → is_rest m ≡ false
      stirred h = let a = f.wait in not-rest (is_rest m) (leb p.wait (length ys)) (not-ending (omega (arith, a, h))).0 (le-leb p.wait (length ys) h)

  -- The sample that settles.
  module _ (pre : List ℕ) (m : SoFar) (g : Going p rest_state 0 pre m) (x : ℕ) (d : ending p (next p m x) (length pre + 1) ≡ true) where
    abbrev n : SoFar
    n = next p m x

    abbrev size : ℕ
    size = length pre + 1

    abbrev pub whole : List ℕ
    whole = pre ++ x ∷ []

    abbrev pub told : MessageTold
    told = told_at p n size

    abbrev pub told_bits : List ℕ
    told_bits = bits_of (count_told told) (bytes_told told)

    long : length whole ≡ size
    long = length-append pre (x ∷ [])

    kept : Legal m × (is_rest m ≡ all_idle_in (map sample_of pre)) × (marked m ≡ foreign_among (map sample_of pre))
    kept = going-keeps p fine rest_state m 0 rest pre g

    n-rest : is_rest n ≡ all_idle_in (map sample_of whole)
    n-rest =
        rest-step (timing_of p) kept.0 (sample_of x) ∙ ap (λ (b : Bool). b && is_idle (sample_of x)) kept.1 ∙ sym (idle-snoc (map sample_of pre) (sample_of x))
        ∙ ap all_idle_in (sym (map-append pre (x ∷ [])))

    n-marked : marked n ≡ foreign_among (map sample_of whole)
    n-marked =
        remembers (timing_of p) kept.0 (sample_of x) ∙ ap (λ (b : Bool). b || is_foreign (sample_of x)) kept.2 ∙ sym (foreign-snoc (map sample_of pre) (sample_of x))
        ∙ ap foreign_among (sym (map-append pre (x ∷ [])))

    whole_tells : tells (timing_of p) rest_state (map sample_of whole) ≡ pick (closes (timing_of p) n) (said_of (told_of n) ∷ []) []
    unfolding tells
    whole_tells =
        ap (tells (timing_of p) rest_state) (map-append pre (x ∷ []))
        ∙ quiet-first (timing_of p) rest_state m (map sample_of pre) (sample_of x ∷ []) (going-quiet p rest_state m 0 pre g)
        ∙ append-nil (pick (closes (timing_of p) n) (said_of (told_of n) ∷ []) [])

    -- The sample before it did not settle: so many had been heard.
    before : (k : ℕ) → length pre ≡ k → (is_rest m ≡ true → length pre < p.wait) × (length pre < p.longest)
    before zero z =
        let f = fine-pace p fine in
        let a = f.wait in
        let b = f.longest in
        (λ h. omega (arith, z, a), omega (arith, z, a, b))
    before (suc k) z =
        let same : 0 + length pre ≡ length pre = omega arith in
        let a = none_of (closes (timing_of p) m || silent_now p m (length pre)) (leb p.longest (length pre)) (subst (λ (k : ℕ). ending p m k ≡ false) same (going-last p rest_state m 0 pre g (omega arith))) in
        let b = (none_of (closes (timing_of p) m) (silent_now p m (length pre)) a.0).1 in
        (λ h. leb-false p.wait (length pre) (sym (ap (λ (t : Bool). t && leb p.wait (length pre)) h) ∙ b), leb-false p.longest (length pre) a.1)

    module _ (rs : List Run) (i : InRuns rs) (e : map sample_of whole ≡ spelled rs) where
      idle-so : all_idle rs ≡ is_rest n
      idle-so = idle-runs rs i ∙ ap all_idle_in (sym e) ∙ sym n-rest

      foreign-so : foreign_in rs ≡ marked n
      foreign-so = foreign-runs rs i ∙ ap foreign_among (sym e) ∙ sym n-marked

      tell-so : by_runs (timing_of p) [] rs ≡ pick (closes (timing_of p) n) (said_of (told_of n) ∷ []) []
      tell-so = runs-tell whole rs i e ∙ whole_tells

      by-close : closes (timing_of p) n ≡ true → BySamples p whole rs (number_told told) told_bits
      by-close c =
          let is : told ≡ told_of n = ap (λ (b : Bool). pick b (told_of n) (pick (silent_now p n size) nothing (given_up n))) c in
          closed (tell-so ∙ ap (λ (b : Bool). pick b (said_of (told_of n) ∷ []) []) c ∙ ap (λ (t : MessageTold). said_of t ∷ []) (sym is))

      by-silence : closes (timing_of p) n ≡ false → silent_now p n size ≡ true → BySamples p whole rs (number_told told) told_bits
      unfolding bits_of
      by-silence c s =
          let is : told ≡ nothing = ap₂ (λ (a b : Bool). pick a (told_of n) (pick b nothing (given_up n))) c s in
          let at_rest : is_rest n ≡ true = both_left (is_rest n) (leb p.wait size) s in
          let m-rest : is_rest m ≡ true = both_left (is_rest m) (is_idle (sample_of x)) (sym (rest-step (timing_of p) kept.0 (sample_of x)) ∙ at_rest) in
          let high : p.wait ≤ size = leb-true p.wait size (both_right (is_rest n) (leb p.wait size) s) in
          let low = (before (length pre) refl).0 m-rest in
          subst (λ (t : MessageTold). BySamples p whole rs (number_told t) (bits_of (count_told t) (bytes_told t))) (sym is)
          (silent (tell-so ∙ ap (λ (b : Bool). pick b (said_of (told_of n) ∷ []) []) c) (idle-so ∙ at_rest) (omega (arith, long, high, low)))

      by-giving-up : closes (timing_of p) n ≡ false → silent_now p n size ≡ false → BySamples p whole rs (number_told told) told_bits
      unfolding bits_of
      by-giving-up c s =
          let is : told ≡ given_up n = ap₂ (λ (a b : Bool). pick a (told_of n) (pick b nothing (given_up n))) c s in
          let late : leb p.longest size ≡ true = sym (ap₂ (λ (a b : Bool). a || b || leb p.longest size) c s) ∙ d in
          let high : p.longest ≤ size = leb-true p.longest size late in
          let low = (before (length pre) refl).1 in
          let f = fine-pace p fine in
          let most = f.longest in
          let waited : leb p.wait size ≡ true = le-leb p.wait size (omega (arith, most, high)) in
          subst (λ (t : MessageTold). BySamples p whole rs (number_told t) (bits_of (count_told t) (bytes_told t))) (sym is)
          (subst (λ (b : Bool). BySamples p whole rs (pick b 22 21) []) foreign-so
          (given-up (tell-so ∙ ap (λ (b : Bool). pick b (said_of (told_of n) ∷ []) []) c) (idle-so ∙ not-rest (is_rest n) (leb p.wait size) s waited) (omega (arith, long, high, low))))

      settled-by : BySamples p whole rs (number_told told) told_bits
      settled-by = go (closes (timing_of p) n) refl (silent_now p n size) refl
        where
          go : (a : Bool) → closes (timing_of p) n ≡ a → (b : Bool) → silent_now p n size ≡ b → BySamples p whole rs (number_told told) told_bits
          go true c b s = by-close c
          go false c true s = by-silence c s
          go false c false s = by-giving-up c s

    pub settles-so : Settles p whole (number_told told) told_bits
    settles-so =
        record {
          last = settled-by;
          sooner = λ k l rs i e.
              let part : take k whole ≡ take k pre = take-append-le k pre (x ∷ []) (omega (arith, l, long)) in
              let r = going-part p rest_state m 0 pre g k in
              subst (λ (ys : List ℕ). NotYet p ys rs) (sym part) (not_yet (take k pre) r.0 r.1 rs i (ap (map sample_of) (sym part) ∙ e));
        }
