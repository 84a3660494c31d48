-- One sample takes the state of the runs before it to the state of the runs after it: the first sample of a new run, and one more of the same. Then a
-- whole run is quiet, or an idle run closes at the gap and is told as the runs say.
use mathlib.Core.Path.{◌≡◌, refl, sym, ap, ap₂, ◌∙◌}
use mathlib.Core.Bool.{Bool, true, false, ◌&&◌, ◌||◌, and-true, and-false, or-false, or-true}
use mathlib.Core.List.{List, [], ◌∷◌}
use Prim.Native.Nat.{ℕ, zero, suc, ◌+◌, ◌<◌, ◌≤◌, min}
use native.Mathlib.Omega.{arith}
use native.Mathlib.Numerals.{add-one}
use native.Mathlib.Nat.{add-zero}
use lib.Dec.{eqb, leb}
use lib.ListN.{length, replicate}
use borrow.Author.Tests.{eq-eqb, ne_eqb, lt-leb}
use Rattle.frame.specs.Pick.{pick}
use Rattle.frame.specs.Line as frame
use Rattle.lines.specs.declared.SoFar.{SoFar}
use Rattle.lines.specs.Sample.{Sample, idle, mark, space, both, foreign}
use Rattle.lines.specs.Timing.{Timing}
use Rattle.lines.specs.SoFar.{so_far, rest_state, spoilt_by}
use Rattle.lines.specs.Step.{with_bit, run_ended, longer_idle, after_idle, after_low, after_both, after, closes}
use Rattle.lines.specs.Hearing.{told_of}
use Rattle.lines.proofs.Cases.{of-pick}
use Rattle.promises_lines.specs.History.{bits_of}
use Rattle.promises_lines.specs.Runs.{Run, is_idle, idle_last, all_pulses, bits_in, all_idle, is_foreign, foreign_in, unspoiled, at_gap}
use Rattle.frame.proofs.Both as together
use Rattle.promises_lines.proofs.Quiet.{Quiet}
use Rattle.promises_lines.proofs.Ends.{Good}
use Rattle.promises_lines.proofs.Streams.{said_of}
use Rattle.promises_lines.proofs.Segments.{run, count-is, count_in, word_in, holds, number_in, idle_state, run_state, state_of, no-foreign, only-idle, some-bit, unspoilt, clean-number, number-some, same_number, is_next, right_length, judge-mark, judge-space, judge-idle, judge-both, judge-foreign, not-all, spoilt-idle, spoilt-low, cut-run}

-- The run before is of another kind.
abbrev pub Differs : Sample → List Run → Type 0
Differs k [] = 0 ≤ 0
Differs k (r ∷ b) = r.kind ≡ k → ⊥

next-clean : (t : Timing) (b : List Run) (n : ℕ) → is_next t b n ≡ true → all_pulses t b ≡ true
next-clean t b n e = (unspoilt t b (together.both (unspoiled t b) (idle_last b) e).0).0

-- Idle after a run of one line.
module _ (t : Timing) (g : Good t) (b : List Run) (n line number : ℕ) (is-low : eqb line 0 ≡ false) (some : 21 ≤ number) (clean : is_next t b n ≡ true → number ≡ 21) where
  idle-after-low : after_idle t.least t.most (run_state (is_next t b n) line n b number)
      ≡ pick (is_next t b n && right_length t b n) (so_far (word_in b + frame.put (frame.mark (eqb line 1)) (count_in b + 1)) 1 (count_in b + 1) 0 0) (spoilt_by number 1)
  idle-after-low = go (is_next t b n) clean
    where
      go : (u : Bool) → (u ≡ true → number ≡ 21)
          → after_idle t.least t.most (run_state u line n b number)
          ≡ pick (u && right_length t b n) (so_far (word_in b + frame.put (frame.mark (eqb line 1)) (count_in b + 1)) 1 (count_in b + 1) 0 0) (spoilt_by number 1)
      go true h =
          unfold after_idle run_ended with_bit in
          rw (is-low, cut-run t.least t.most n g.most, h refl)
      go false h = spoilt-idle t number 0 some

first-idle : (t : Timing) (g : Good t) (b : List Run) → Differs idle b → after_idle t.least t.most (state_of t b) ≡ state_of t (run idle 1 ∷ b)
unfolding after_idle longer_idle all_idle
first-idle t g [] d = refl
first-idle t g (r ∷ c) d = go r.kind d
  where
    go : (k : Sample) → (k ≡ idle → ⊥) → after_idle t.least t.most (state_of t (run k r.size ∷ c)) ≡ idle_state t (run k r.size ∷ c) 1
    go idle d = absurd (d refl)
    go mark d =
        rw (not-all t c r.size mark refl, judge-mark t c r.size)
        (idle-after-low t g c r.size 1 (number_in (run mark r.size ∷ c)) refl (number-some (run mark r.size ∷ c)).0
        (λ e. same_number (run mark r.size) c refl ∙ clean-number t c (next-clean t c r.size e)))
    go space d =
        rw (not-all t c r.size space refl, judge-space t c r.size)
        (idle-after-low t g c r.size 2 (number_in (run space r.size ∷ c)) refl (number-some (run space r.size ∷ c)).0
        (λ e. same_number (run space r.size) c refl ∙ clean-number t c (next-clean t c r.size e)))
    go both d =
        rw (not-all t c r.size both refl, judge-both t c r.size) (spoilt-idle t (number_in (run both r.size ∷ c)) 0 (number-some (run both r.size ∷ c)).0)
    go foreign d =
        rw (not-all t c r.size foreign refl, judge-foreign t c r.size) (spoilt-idle t (number_in (run foreign r.size ∷ c)) 0 (number-some (run foreign r.size ∷ c)).0)

-- One line low: after idle, after the other line, or in a spoiled message.
module _ (t : Timing) (line : ℕ) where
  low-after-idle : (c : List Run) (n number : ℕ) → number ≡ number_in c → after_low line (idle_state t c n) ≡ run_state (unspoiled t c) line 1 c number
  low-after-idle c n number e =
      go (all_idle c) (unspoiled t c) (λ o. let i = only-idle t c o in (i.word, i.count, still-good o))
    where
      still-good : all_idle c ≡ true → unspoiled t c ≡ true
      still-good o =
          let i = only-idle t c o in
          unfold unspoiled in rw (i.pulses, length_none i.count)
        where
          length_none : count_in c ≡ 0 → leb (length (bits_in c)) 64 ≡ true
          length_none z = ap (λ (x : ℕ). leb x 64) (count-is c ∙ z)

      go : (o u : Bool) → (o ≡ true → (word_in c ≡ 0) × (count_in c ≡ 0) × (u ≡ true))
          → after_low line (pick o rest_state (pick u (so_far (word_in c) n (count_in c) 0 0) (spoilt_by (number_in c) n))) ≡ run_state u line 1 c number
      go true u h = unfold after_low in rw ((h refl).2, (h refl).0, (h refl).1)
      go false true h = unfold after_low in refl
      go false false h = spoilt-low t (number_in c) n (number-some c).0 line ∙ ap (λ (x : ℕ). spoilt_by x 0) (sym e)

  low-after-low : (c : List Run) (n other number : ℕ) → eqb other 0 ≡ false → eqb other line ≡ false → number ≡ number_in c
      → after_low line (run_state (is_next t c n) other n c number) ≡ spoilt_by number 0
  low-after-low c n other number e f is = go (is_next t c n) (λ u. is ∙ clean-number t c (next-clean t c n u))
    where
      go : (u : Bool) → (u ≡ true → number ≡ 21) → after_low line (run_state u other n c number) ≡ spoilt_by number 0
      go true h = unfold after_low in rw (e, f, h refl)
      go false h = spoilt-low t number 0 (rw is (number-some c).0) line

-- The number after two runs more.
two-more : (r q : Run) (c : List Run) → is_foreign r.kind ≡ false → is_foreign q.kind ≡ false → number_in (r ∷ q ∷ c) ≡ number_in c
two-more r q c e f = same_number r (q ∷ c) e ∙ same_number q c f

first-mark : (t : Timing) (b : List Run) → Differs mark b → after_low 1 (state_of t b) ≡ state_of t (run mark 1 ∷ b)
unfolding after_low unspoiled all_pulses bits_in
first-mark t [] d = refl
first-mark t (r ∷ c) d = go r.kind d
  where
    go : (k : Sample) → (k ≡ mark → ⊥) → after_low 1 (state_of t (run k r.size ∷ c)) ≡ state_of t (run mark 1 ∷ run k r.size ∷ c)
    go mark d = absurd (d refl)
    go idle d =
        rw (judge-idle t c r.size, and-true (unspoiled t c))
        (low-after-idle t 1 c r.size (number_in (run mark 1 ∷ run idle r.size ∷ c)) (two-more (run mark 1) (run idle r.size) c refl refl))
    go space d =
        rw (and-false (unspoiled t (run space r.size ∷ c)))
        (low-after-low t 1 c r.size 2 (number_in (run space r.size ∷ c)) refl refl (same_number (run space r.size) c refl)
        ∙ ap (λ (x : ℕ). spoilt_by x 0) (sym (same_number (run mark 1) (run space r.size ∷ c) refl)))
    go both d =
        rw (and-false (unspoiled t (run both r.size ∷ c)))
        (spoilt-low t (number_in (run both r.size ∷ c)) 0 (number-some (run both r.size ∷ c)).0 1
        ∙ ap (λ (x : ℕ). spoilt_by x 0) (sym (same_number (run mark 1) (run both r.size ∷ c) refl)))
    go foreign d =
        rw (and-false (unspoiled t (run foreign r.size ∷ c)))
        (spoilt-low t (number_in (run foreign r.size ∷ c)) 0 (number-some (run foreign r.size ∷ c)).0 1
        ∙ ap (λ (x : ℕ). spoilt_by x 0) (sym (same_number (run mark 1) (run foreign r.size ∷ c) refl)))

first-space : (t : Timing) (b : List Run) → Differs space b → after_low 2 (state_of t b) ≡ state_of t (run space 1 ∷ b)
unfolding after_low unspoiled all_pulses bits_in
first-space t [] d = refl
first-space t (r ∷ c) d = go r.kind d
  where
    go : (k : Sample) → (k ≡ space → ⊥) → after_low 2 (state_of t (run k r.size ∷ c)) ≡ state_of t (run space 1 ∷ run k r.size ∷ c)
    go space d = absurd (d refl)
    go idle d =
        rw (judge-idle t c r.size, and-true (unspoiled t c))
        (low-after-idle t 2 c r.size (number_in (run space 1 ∷ run idle r.size ∷ c)) (two-more (run space 1) (run idle r.size) c refl refl))
    go mark d =
        rw (and-false (unspoiled t (run mark r.size ∷ c)))
        (low-after-low t 2 c r.size 1 (number_in (run mark r.size ∷ c)) refl refl (same_number (run mark r.size) c refl)
        ∙ ap (λ (x : ℕ). spoilt_by x 0) (sym (same_number (run space 1) (run mark r.size ∷ c) refl)))
    go both d =
        rw (and-false (unspoiled t (run both r.size ∷ c)))
        (spoilt-low t (number_in (run both r.size ∷ c)) 0 (number-some (run both r.size ∷ c)).0 2
        ∙ ap (λ (x : ℕ). spoilt_by x 0) (sym (same_number (run space 1) (run both r.size ∷ c) refl)))
    go foreign d =
        rw (and-false (unspoiled t (run foreign r.size ∷ c)))
        (spoilt-low t (number_in (run foreign r.size ∷ c)) 0 (number-some (run foreign r.size ∷ c)).0 2
        ∙ ap (λ (x : ℕ). spoilt_by x 0) (sym (same_number (run space 1) (run foreign r.size ∷ c) refl)))

-- What the state remembers of bytes above 3.
number-back : (x : Bool) → eqb (pick x 22 21) 22 ≡ x
number-back true = refl
number-back false = refl

abbrev Remembers : List Run → SoFar → Type 0
Remembers b s = eqb s.fault 22 ≡ foreign_in b

remembers : (t : Timing) (b : List Run) → Remembers b (state_of t b)
unfolding foreign_in
remembers t [] = refl
remembers t (r ∷ c) = go r.kind
  where
    in-run : (k : Sample) (line : ℕ) → is_foreign k ≡ false → (x : Bool) → x ≡ (foreign_in c || is_foreign k) → eqb (run_state (is_next t c 0) line r.size c (pick x 22 21)).fault 22 ≡ (foreign_in c || is_foreign k)
    in-run k line f x e =
        of-pick (λ (s : SoFar). eqb s.fault 22 ≡ (foreign_in c || is_foreign k)) (is_next t c 0) (so_far (word_in c) (min r.size 1001) (count_in c) line 0) (spoilt_by (pick x 22 21) 0)
        (λ u. sym (ap₂ (λ (x y : Bool). x || y) (no-foreign t c (next-clean t c 0 u)) f)) (λ u. number-back x ∙ e)

    go : (k : Sample) → Remembers (run k r.size ∷ c) (state_of t (run k r.size ∷ c))
    go idle =
        of-pick (λ (s : SoFar). eqb s.fault 22 ≡ (foreign_in c || false)) (all_idle c) rest_state
        (pick (unspoiled t c) (so_far (word_in c) r.size (count_in c) 0 0) (spoilt_by (number_in c) r.size))
        (λ o. sym (ap (λ (x : Bool). x || false) (no-foreign t c (only-idle t c o).pulses)))
        (λ o. of-pick (λ (s : SoFar). eqb s.fault 22 ≡ (foreign_in c || false)) (unspoiled t c) (so_far (word_in c) r.size (count_in c) 0 0) (spoilt_by (number_in c) r.size)
        (λ u. sym (ap (λ (x : Bool). x || false) (no-foreign t c (unspoilt t c u).0))) (λ u. number-back (foreign_in c) ∙ sym (or-false (foreign_in c))))
    go mark = in-run mark 1 refl (foreign_in c || false) refl
    go space = in-run space 2 refl (foreign_in c || false) refl
    go both = number-back (foreign_in c || false)
    go foreign = number-back (foreign_in c || true)

first-both : (t : Timing) (b : List Run) → after_both 21 (state_of t b) ≡ state_of t (run both 1 ∷ b)
unfolding after_both foreign_in
first-both t b = ap (λ (x : Bool). spoilt_by (pick x 22 21) 0) (remembers t b ∙ sym (or-false (foreign_in b)))

always : (x : Bool) → ◌≡◌ {A = ℕ} (pick x 22 22) 22
always true = refl
always false = refl

first-foreign : (t : Timing) (b : List Run) → after_both 22 (state_of t b) ≡ state_of t (run foreign 1 ∷ b)
unfolding after_both foreign_in
first-foreign t b =
    ap (λ (x : ℕ). spoilt_by x 0) (always (eqb (state_of t b).fault 22)) ∙ ap (λ (x : Bool). spoilt_by (pick x 22 21) 0) (sym (or-true (foreign_in b)))

pub first : (t : Timing) (g : Good t) (k : Sample) (b : List Run) → Differs k b → after t (state_of t b) k ≡ state_of t (run k 1 ∷ b)
first t g idle b d = first-idle t g b d
first t g mark b d = first-mark t b d
first t g space b d = first-space t b d
first t g both b d = first-both t b
first t g foreign b d = first-foreign t b

-- One more of the same.
more-low : (u : Bool) (t : Timing) (b : List Run) (n line number : ℕ) → eqb line 0 ≡ false → 21 ≤ number → 1 ≤ n
    → after_low line (run_state u line n b number) ≡ run_state u line (suc n) b number
unfolding after_low
more-low true t b n line number e some p =
    rw (e, eq-eqb line line refl) (ap (λ (x : ℕ). so_far (word_in b) x (count_in b) line 0) (omega arith))
more-low false t b n line number e some p = spoilt-low t number 0 some line

more-idle : (t : Timing) (b : List Run) (n : ℕ) → after_idle t.least t.most (idle_state t b n) ≡ idle_state t b (suc n)
more-idle t b n = go (all_idle b) (unspoiled t b) (some-bit t b) (unspoilt t b)
  where
    go : (o u : Bool) → (all_pulses t b ≡ true → o ≡ false → 1 ≤ count_in b) → (u ≡ true → (all_pulses t b ≡ true) × (count_in b ≤ 64))
        → after_idle t.least t.most (pick o rest_state (pick u (so_far (word_in b) n (count_in b) 0 0) (spoilt_by (number_in b) n)))
        ≡ pick o rest_state (pick u (so_far (word_in b) (suc n) (count_in b) 0 0) (spoilt_by (number_in b) (suc n)))
    go true u h c = unfold after_idle longer_idle in refl
    go false true h c =
        unfold after_idle longer_idle in
        (let some : 1 ≤ count_in b = h (c refl).0 refl in
        rw (ne_eqb (count_in b) 0 (omega arith)) (ap (λ (x : ℕ). so_far (word_in b) x (count_in b) 0 0) (add-one n)))
    go false false h c = spoilt-idle t (number_in b) n (number-some b).0 ∙ ap (spoilt_by (number_in b)) (add-one n)

more : (t : Timing) (k : Sample) (b : List Run) (n : ℕ) → 1 ≤ n → after t (state_of t (run k n ∷ b)) k ≡ state_of t (run k (suc n) ∷ b)
unfolding after_both foreign_in
more t idle b n p = more-idle t b n
more t mark b n p = more-low (unspoiled t b && idle_last b) t b n 1 (number_in (run mark n ∷ b)) refl (number-some (run mark n ∷ b)).0 p
more t space b n p = more-low (unspoiled t b && idle_last b) t b n 2 (number_in (run space n ∷ b)) refl (number-some (run space n ∷ b)).0 p
more t both b n p = ap (λ (x : Bool). spoilt_by (pick x 22 21) 0) (number-back (foreign_in b || false))
more t foreign b n p =
    ap (λ (x : ℕ). spoilt_by x 0) (always (eqb (number_in (run foreign n ∷ b)) 22)) ∙ ap (λ (x : Bool). spoilt_by (pick x 22 21) 0) (sym (or-true (foreign_in b)))

-- The state after so many samples of a new run.
abbrev pub stage : Timing → Sample → List Run → ℕ → SoFar
stage t k b zero = state_of t b
stage t k b (suc n) = state_of t (run k (suc n) ∷ b)

pub one : (t : Timing) (g : Good t) (k : Sample) (b : List Run) → Differs k b → (n : ℕ) → after t (stage t k b n) k ≡ stage t k b (suc n)
one t g k b d zero = first t g k b d
one t g k b d (suc n) = more t k b (suc n) (omega arith)

-- Which stages close.
module _ (t : Timing) (g : Good t) (b : List Run) where
  closes-low : (u : Bool) (line n number : ℕ) → eqb line 0 ≡ false → closes t (run_state u line n b number) ≡ false
  closes-low true line n number e = rw e
  closes-low false line n number e = lt-leb t.gap 0 g.some

  pub closes-run : (k : Sample) → is_idle k ≡ false → (n : ℕ) → closes t (state_of t (run k n ∷ b)) ≡ false
  closes-run idle e n = absurd (let z : ◌≡◌ {A = ℕ} 0 1 = cc in omega arith)
  closes-run mark e n = closes-low (unspoiled t b && idle_last b) 1 n (number_in (run mark n ∷ b)) refl
  closes-run space e n = closes-low (unspoiled t b && idle_last b) 2 n (number_in (run space n ∷ b)) refl
  closes-run both e n = lt-leb t.gap 0 g.some
  closes-run foreign e n = lt-leb t.gap 0 g.some

  pub rests : all_idle b ≡ true → (n : ℕ) → state_of t (run idle n ∷ b) ≡ rest_state
  rests o n = rw o

  pub closes-rest : all_idle b ≡ true → (n : ℕ) → closes t (state_of t (run idle n ∷ b)) ≡ false
  closes-rest o n = ap (closes t) (rests o n) ∙ lt-leb t.gap 0 g.some

  pub closes-idle : all_idle b ≡ false → (n : ℕ) → closes t (state_of t (run idle n ∷ b)) ≡ leb t.gap n
  closes-idle o n =
      rw o
      (of-pick (λ (s : SoFar). closes t s ≡ leb t.gap n) (unspoiled t b) (so_far (word_in b) n (count_in b) 0 0) (spoilt_by (number_in b) n) (λ u. refl) (λ u. refl))

  -- What an idle run tells where it closes.
  pub closes_as : all_idle b ≡ false → (n : ℕ) → said_of (told_of (state_of t (run idle n ∷ b))) ∷ [] ≡ at_gap t b
  unfolding at_gap bits_of
  closes_as o n = rw o (go (unspoiled t b) (unspoilt t b))
    where
      go : (u : Bool) → (u ≡ true → (all_pulses t b ≡ true) × (count_in b ≤ 64))
          → said_of (told_of (pick u (so_far (word_in b) n (count_in b) 0 0) (spoilt_by (number_in b) n))) ∷ []
          ≡ pick u (record { number = 0; bits = bits_in b } ∷ []) (record { number = number_in b; bits = [] } ∷ [])
      go true h = ap (λ (x : List ℕ). record { number = 0; bits = x } ∷ []) (holds b (h refl).1).bits
      go false h = rw (ne_eqb (number_in b) 0 (let s = (number-some b).0 in omega arith))

-- Samples of one run, none of which closes.
pub quiet-from : (t : Timing) (g : Good t) (k : Sample) (b : List Run) → Differs k b → (n i : ℕ)
    → ((m : ℕ) → n < m → m ≤ n + i → closes t (stage t k b m) ≡ false) → Quiet t (stage t k b n) (replicate i k) (stage t k b (n + i))
quiet-from t g k b d n zero h = ap (stage t k b) (sym (add-zero n))
quiet-from t g k b d n (suc i) h =
    let next : n + suc i ≡ suc n + i = omega arith in
    rw (one t g k b d n, next) (h (suc n) (omega arith) (omega arith), quiet-from t g k b d (suc n) i (λ m p q. h m (omega arith) (omega arith)))
