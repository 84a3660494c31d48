-- Runs: by induction on the runs, with the state of the runs since the last gap. A run that is no gap is quiet; an idle run of the gap's length is quiet
-- up to its last sample but one, closes there, and leaves the lines at rest.
use mathlib.Core.Path.{◌≡◌, refl, sym, ap, ap₂, ◌∙◌}
use mathlib.Core.Bool.{Bool, true, false, ◌&&◌}
use mathlib.Core.List.{List, [], ◌∷◌, ◌++◌, append_assoc}
use Prim.Native.Nat.{ℕ, zero, suc, ◌+◌, ◌-◌, ◌<◌, ◌≤◌}
use native.Mathlib.Omega.{arith}
use lib.Dec.{leb}
use lib.ListN.{replicate, replicate-append-replicate}
use borrow.Author.Tests.{leb-true, leb-false, le-leb, lt-leb}
use Rattle.frame.specs.Pick.{pick}
use Rattle.lines.specs.declared.SoFar.{SoFar}
use Rattle.lines.specs.Sample.{Sample, idle, mark, space, both, foreign}
use Rattle.lines.specs.Timing.{Timing}
use Rattle.lines.specs.SoFar.{rest_state}
use Rattle.lines.specs.Step.{longer_idle, after_idle, after, closes}
use Rattle.lines.specs.Hearing.{told_of}
use Rattle.promises_lines.specs.History.{Said}
use Rattle.promises_lines.specs.Runs.{Run, spelled, Apart, InRuns, is_idle, all_idle, at_gap, is_gap, by_runs, Runs}
use Rattle.frame.proofs.Both as together
use Rattle.promises_lines.proofs.Legal.{rest}
use Rattle.promises_lines.proofs.Quiet.{Quiet}
use Rattle.promises_lines.proofs.Ends.{Good, good}
use Rattle.promises_lines.proofs.Streams.{said_of, tells, quiet-first, history}
use Rattle.promises_lines.proofs.Grouped.{grouped}
use Rattle.promises_lines.proofs.Segments.{run, state_of}
use Rattle.promises_lines.proofs.SegmentSteps.{Differs, stage, one, closes-run, rests, closes-rest, closes-idle, closes_as, quiet-from}

pub stage_is : (t : Timing) (k : Sample) (b : List Run) (n : ℕ) → 1 ≤ n → stage t k b n ≡ state_of t (run k n ∷ b)
stage_is t k b zero h = absurd (omega arith)
stage_is t k b (suc n) h = refl

-- Idle at rest.
pub rest-idle : (t : Timing) → Good t → (i : ℕ) → Quiet t rest_state (replicate i idle) rest_state
unfolding after_idle longer_idle
rest-idle t g zero = refl
rest-idle t g (suc i) = (lt-leb t.gap 0 g.some, rest-idle t g i)

-- No stage of a run closes that is no gap.
by_all : {A : Type 0} (x : Bool) → (x ≡ true → A) → (x ≡ false → A) → A
by_all true f g = f refl
by_all false f g = g refl

calm : (t : Timing) (g : Good t) (b : List Run) (k : Sample) (n : ℕ) → (is_idle k && leb t.gap n) ≡ false → (m : ℕ) → 0 < m → m ≤ n → closes t (stage t k b m) ≡ false
calm t g b k n e zero p q = absurd (omega arith)
calm t g b idle n e (suc m) p q =
    by_all (all_idle b) (λ o. closes-rest t g b o (suc m))
    (λ o. closes-idle t g b o (suc m) ∙ lt-leb t.gap (suc m) (let less : n < t.gap = leb-false t.gap n e in omega arith))
calm t g b mark n e (suc m) p q = closes-run t g b mark refl (suc m)
calm t g b space n e (suc m) p q = closes-run t g b space refl (suc m)
calm t g b both n e (suc m) p q = closes-run t g b both refl (suc m)
calm t g b foreign n e (suc m) p q = closes-run t g b foreign refl (suc m)

-- A run that is no gap.
pub quiet-run : (t : Timing) (g : Good t) (b : List Run) (k : Sample) (n : ℕ) → Differs k b → 1 ≤ n → (is_idle k && leb t.gap n) ≡ false
    → Quiet t (state_of t b) (replicate n k) (state_of t (run k n ∷ b))
quiet-run t g b k n d p e =
    let all : 0 + n ≡ n = omega arith in
    let q : Quiet t (stage t k b 0) (replicate n k) (stage t k b (0 + n)) = quiet-from t g k b d 0 n (λ m u v. calm t g b k n e m u (omega arith)) in
    rw (all, stage_is t k b n p) at q

-- The gap: its samples but the last.
module _ (t : Timing) (g : Good t) (b : List Run) (d : Differs idle b) (o : all_idle b ≡ false) where
  abbrev pub before_last : SoFar
  before_last = stage t idle b (t.gap - 1)

  pub quiet-gap : Quiet t (state_of t b) (replicate (t.gap - 1) idle) before_last
  quiet-gap =
      let all : 0 + (t.gap - 1) ≡ t.gap - 1 = omega arith in
      let q : Quiet t (stage t idle b 0) (replicate (t.gap - 1) idle) (stage t idle b (0 + (t.gap - 1)))
      = quiet-from t g idle b d 0 (t.gap - 1) (λ m u v. short m u (omega (arith, g.some))) in
      rw all at q
    where
      short : (m : ℕ) → 0 < m → m < t.gap → closes t (stage t idle b m) ≡ false
      short zero u v = absurd (omega arith)
      short (suc m) u v = closes-idle t g b o (suc m) ∙ lt-leb t.gap (suc m) v

  pub last-idle : after t before_last idle ≡ state_of t (run idle t.gap ∷ b)
  last-idle =
      let whole : suc (t.gap - 1) ≡ t.gap = let s = g.some in omega arith in
      one t g idle b d (t.gap - 1) ∙ ap (λ (n : ℕ). state_of t (run idle n ∷ b)) whole

  pub last-closes : closes t (after t before_last idle) ≡ true
  last-closes = ap (closes t) last-idle ∙ closes-idle t g b o t.gap ∙ le-leb t.gap t.gap (omega arith)

  tells-gap : (js : List Sample) → tells t before_last (idle ∷ js) ≡ at_gap t b ++ tells t rest_state js
  unfolding tells
  tells-gap js =
      ap₂ (λ (x : List Said) (s : SoFar). x ++ tells t s js)
      (ap (λ (c : Bool). pick c (said_of (told_of (after t before_last idle)) ∷ []) []) last-closes
      ∙ ap (λ (s : SoFar). said_of (told_of s) ∷ []) last-idle ∙ closes_as t g b o t.gap)
      (ap (λ (c : Bool). pick c rest_state (after t before_last idle)) last-closes)

-- An idle run of the gap's length or longer.
gap-tells : (t : Timing) (g : Good t) (b : List Run) → Differs idle b → (n : ℕ) → t.gap ≤ n → (js : List Sample)
    → tells t (state_of t b) (replicate n idle ++ js) ≡ at_gap t b ++ tells t rest_state js
gap-tells t g b d n h js = by_all (all_idle b) all_rest some-open
  where
    all_rest : all_idle b ≡ true → tells t (state_of t b) (replicate n idle ++ js) ≡ at_gap t b ++ tells t rest_state js
    all_rest o =
        let some = g.some in
        let all : 0 + n ≡ n = omega arith in
        let q : Quiet t (stage t idle b 0) (replicate n idle) (stage t idle b (0 + n)) = quiet-from t g idle b d 0 n (λ m u v. never m u) in
        quiet-first t (state_of t b) rest_state (replicate n idle) js (rw (all, stage_is t idle b n (omega arith), rests t g b o n) at q)
        ∙ nothing-told
      where
        never : (m : ℕ) → 0 < m → closes t (stage t idle b m) ≡ false
        never zero u = absurd (omega arith)
        never (suc m) u = closes-rest t g b o (suc m)

        nothing-told : tells t rest_state js ≡ at_gap t b ++ tells t rest_state js
        nothing-told = unfold at_gap in rw o

    some-open : all_idle b ≡ false → tells t (state_of t b) (replicate n idle ++ js) ≡ at_gap t b ++ tells t rest_state js
    some-open o =
        let some = g.some in
        let parts : n ≡ t.gap - 1 + suc (n - t.gap) = omega arith in
        let cut : replicate n idle ++ js ≡ replicate (t.gap - 1) idle ++ (idle ∷ (replicate (n - t.gap) idle ++ js))
        = ap (λ (m : ℕ). replicate m idle ++ js) parts
        ∙ ap (λ (x : List Sample). x ++ js) (sym (replicate-append-replicate (t.gap - 1) (suc (n - t.gap)) idle))
        ∙ append_assoc (replicate (t.gap - 1) idle) (idle ∷ replicate (n - t.gap) idle) js in
        ap (tells t (state_of t b)) cut
        ∙ quiet-first t (state_of t b) (before_last t g b d o) (replicate (t.gap - 1) idle) (idle ∷ (replicate (n - t.gap) idle ++ js)) (quiet-gap t g b d o)
        ∙ tells-gap t g b d o (replicate (n - t.gap) idle ++ js)
        ∙ ap (λ (x : List Said). at_gap t b ++ x) (quiet-first t rest_state rest_state (replicate (n - t.gap) idle) js (rest-idle t g (n - t.gap)))

-- The next run, if there is one, is of another kind.
abbrev Joined : List Run → List Run → Type 0
Joined b [] = 0 ≤ 0
Joined b (r ∷ rs) = Differs r.kind b

size_of : (r : Run) (rs : List Run) → Apart r rs → 1 ≤ r.size
size_of r [] a = a
size_of r (q ∷ rs) a = a.0

joined-next : (r : Run) (b rs : List Run) → Apart r rs → Joined (r ∷ b) rs
joined-next r b [] a = omega arith
joined-next r b (q ∷ rs) a = a.1

joined-rest : (rs : List Run) → Joined [] rs
joined-rest [] = omega arith
joined-rest (r ∷ rs) = omega arith

is-idle : (k : Sample) → is_idle k ≡ true → k ≡ idle
is-idle idle e = refl
is-idle mark e = absurd (let z : ◌≡◌ {A = ℕ} 0 1 = cc in omega arith)
is-idle space e = absurd (let z : ◌≡◌ {A = ℕ} 0 1 = cc in omega arith)
is-idle both e = absurd (let z : ◌≡◌ {A = ℕ} 0 1 = cc in omega arith)
is-idle foreign e = absurd (let z : ◌≡◌ {A = ℕ} 0 1 = cc in omega arith)

tell-runs : (t : Timing) (g : Good t) (rs b : List Run) → Joined b rs → InRuns rs → tells t (state_of t b) (spelled rs) ≡ by_runs t b rs
unfolding tells spelled by_runs
tell-runs t g [] b j i = refl
tell-runs t g (r ∷ rs) b j i =
    go (is_gap t r) refl (tell-runs t g rs (r ∷ b) (joined-next r b rs i.0) i.1) (tell-runs t g rs [] (joined-rest rs) i.1)
  where
    go : (x : Bool) → is_gap t r ≡ x → tells t (state_of t (r ∷ b)) (spelled rs) ≡ by_runs t (r ∷ b) rs → tells t rest_state (spelled rs) ≡ by_runs t [] rs
        → tells t (state_of t b) (replicate r.size r.kind ++ spelled rs) ≡ pick x (at_gap t b ++ by_runs t [] rs) (by_runs t (r ∷ b) rs)
    go true e on off =
        let p = together.both (is_idle r.kind) (leb t.gap r.size) e in
        let k : r.kind ≡ idle = is-idle r.kind p.0 in
        let d : Differs idle b = rw k at j in
        ap (λ (x : Sample). tells t (state_of t b) (replicate r.size x ++ spelled rs)) k
        ∙ gap-tells t g b d r.size (leb-true t.gap r.size p.1) (spelled rs) ∙ ap (λ (x : List Said). at_gap t b ++ x) off
    go false e on off =
        quiet-first t (state_of t b) (state_of t (r ∷ b)) (replicate r.size r.kind) (spelled rs)
        (quiet-run t g b r.kind r.size j (size_of r rs i.0) e) ∙ on

-- From the beginning, samples tell what their runs do.
pub tells_as : (t : Timing) → Good t → (rs : List Run) → InRuns rs → tells t rest_state (spelled rs) ≡ by_runs t [] rs
tells_as t g rs i = tell-runs t g rs [] (joined-rest rs) i

pub runs : Runs
runs =
    record {
      grouped = grouped;
      told = λ t e rs i xs is told end h.
          let g = good t e in
          (history t e g rest h).all ∙ ap (tells t rest_state) is ∙ tells_as t g rs i;
    }
