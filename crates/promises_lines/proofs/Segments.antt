-- The state after the runs since the last gap, worked out from the runs: one sample more of a run, or the first of a new one, takes the state of the
-- runs before it to the state of the runs after it. By cases on the kinds; a message is bits so far, or spoiled, and both sides judge alike.
use mathlib.Core.Path.{◌≡◌, refl, sym, ap, ap₂, ◌∙◌}
use mathlib.Core.Bool.{Bool, true, false, ◌&&◌, ◌||◌, and-true, and-false, or-false}
use mathlib.Core.List.{List, [], ◌∷◌, ◌++◌, append-nil}
use Prim.Native.Nat.{ℕ, ◌+◌, ◌<◌, ◌≤◌, min}
use native.Mathlib.Omega.{arith}
use lib.Dec.{leb, ltb}
use lib.ListN.{length, length-append}
use borrow.Author.Tests.{leb-true, ne_eqb, le-leb, lt-leb, lt-ltb, le-ltb}
use Rattle.frame.specs.Pick.{pick, within}
use Rattle.frame.specs.Line as frame
use Rattle.frame.specs.Line.{first_bytes}
use Rattle.lines.specs.declared.SoFar.{SoFar}
use Rattle.lines.specs.Sample.{Sample, idle, mark, space, both, foreign}
use Rattle.lines.specs.Timing.{Timing}
use Rattle.lines.specs.SoFar.{so_far, rest_state, spoilt_by}
use Rattle.lines.specs.Step.{longer_idle, after_idle, after_low}
use Rattle.lines.proofs.Cases.{of-pick}
use Rattle.promises_lines.specs.History.{bits_of}
use Rattle.promises_lines.specs.Runs.{Run, is_idle, idle_last, pulse_or_idle, all_pulses, bit_of, bits_in, all_idle, is_foreign, foreign_in, unspoiled}
use Rattle.frame.proofs.Both as together
use Rattle.promises_frame.proofs.Cases as cases
use Rattle.promises_lines.proofs.Words.{Clear, clear-more, bits-more}
use Rattle.promises_lines.proofs.Legal.{no_bits}

abbrev pub run : Sample → ℕ → Run
run kind size = record { kind = kind; size = size }

-- The bits of runs as a word, and how many they are.
abbrev more_bits : Sample → ℕ → ℕ
more_bits idle n = n
more_bits mark n = n + 1
more_bits space n = n + 1
more_bits both n = n
more_bits foreign n = n

abbrev more_word : Sample → ℕ → ℕ → ℕ
more_word idle w n = w
more_word mark w n = w + frame.put 1 (n + 1)
more_word space w n = w + frame.put 0 (n + 1)
more_word both w n = w
more_word foreign w n = w

abbrev pub count_in : List Run → ℕ
count_in [] = 0
count_in (r ∷ b) = more_bits r.kind (count_in b)

abbrev pub word_in : List Run → ℕ
word_in [] = 0
word_in (r ∷ b) = more_word r.kind (word_in b) (count_in b)

pub count-is : (b : List Run) → length (bits_in b) ≡ count_in b
unfolding bits_in
count-is [] = refl
count-is (r ∷ b) = length-append (bits_in b) (bit_of r.kind) ∙ ap (λ (n : ℕ). n + length (bit_of r.kind)) (count-is b) ∙ go r.kind
  where
    go : (k : Sample) → count_in b + length (bit_of k) ≡ more_bits k (count_in b)
    go idle = omega arith
    go mark = omega arith
    go space = omega arith
    go both = omega arith
    go foreign = omega arith

-- The word holds the bits, and nothing after them.
pub record Holds (b : List Run) : Type 0 where
  pub clear : Clear (word_in b) (count_in b)
  pub bits : bits_of (count_in b) (first_bytes 8 (word_in b)) ≡ bits_in b

pub holds : (b : List Run) → count_in b ≤ 64 → Holds b
unfolding bits_in bits_of
holds [] h = record { clear = no_bits; bits = refl }
holds (r ∷ b) h = go r.kind h (holds b)
  where
    one : (m : ℕ) → m < 2 → count_in b + 1 ≤ 64 → Holds b
        → Clear (word_in b + frame.put m (count_in b + 1)) (count_in b + 1) × (bits_of (count_in b + 1) (first_bytes 8 (word_in b + frame.put m (count_in b + 1))) ≡ bits_in b ++ m ∷ [])
    one m less h p =
        (clear-more (word_in b) (count_in b) (omega arith) p.clear m, bits-more (word_in b) (count_in b) (omega arith) p.clear m less ∙ ap (λ (xs : List ℕ). xs ++ m ∷ []) p.bits)

    go : (k : Sample) → more_bits k (count_in b) ≤ 64 → (count_in b ≤ 64 → Holds b) → Holds (run k r.size ∷ b)
    go idle h p = record { clear = (p h).clear; bits = (p h).bits ∙ sym (append-nil (bits_in b)) }
    go mark h p = let q = one 1 (omega arith) h (p (omega arith)) in record { clear = q.0; bits = q.1 }
    go space h p = let q = one 0 (omega arith) h (p (omega arith)) in record { clear = q.0; bits = q.1 }
    go both h p = record { clear = (p h).clear; bits = (p h).bits ∙ sym (append-nil (bits_in b)) }
    go foreign h p = record { clear = (p h).clear; bits = (p h).bits ∙ sym (append-nil (bits_in b)) }

-- The number of a spoiled message.
abbrev pub number_in : List Run → ℕ
number_in b = pick (foreign_in b) 22 21

abbrev pub idle_state : Timing → List Run → ℕ → SoFar
idle_state t b n =
    pick (all_idle b) rest_state (pick (unspoiled t b) (so_far (word_in b) n (count_in b) 0 0) (spoilt_by (number_in b) n))

abbrev pub run_state : (u : Bool) (line n : ℕ) → List Run → (number : ℕ) → SoFar
run_state u line n b number = pick u (so_far (word_in b) (min n 1001) (count_in b) line 0) (spoilt_by number 0)

abbrev state_with : Timing → Sample → ℕ → List Run → ℕ → SoFar
state_with t idle n b number = idle_state t b n
state_with t mark n b number = run_state (unspoiled t b && idle_last b) 1 n b number
state_with t space n b number = run_state (unspoiled t b && idle_last b) 2 n b number
state_with t both n b number = spoilt_by number 0
state_with t foreign n b number = spoilt_by number 0

abbrev pub state_of : Timing → List Run → SoFar
state_of t [] = rest_state
state_of t (r ∷ b) = state_with t r.kind r.size b (number_in (r ∷ b))

-- Pulses alone hold no byte above 3; idle alone holds no bit; and pulses that are not idle alone hold one.
pub no-foreign : (t : Timing) (b : List Run) → all_pulses t b ≡ true → foreign_in b ≡ false
unfolding all_pulses foreign_in
no-foreign t [] e = refl
no-foreign t (r ∷ b) e =
    let p = together.both (all_pulses t b) (pulse_or_idle t r.kind r.size b) e in
    ap (λ (x : Bool). x || is_foreign r.kind) (no-foreign t b p.0) ∙ go r.kind p.1
  where
    go : (k : Sample) → pulse_or_idle t k r.size b ≡ true → is_foreign k ≡ false
    go idle e = refl
    go mark e = refl
    go space e = refl
    go both e = refl
    go foreign e = sym e

pub record Idle (t : Timing) (b : List Run) : Type 0 where
  pub word : word_in b ≡ 0
  pub count : count_in b ≡ 0
  pub pulses : all_pulses t b ≡ true

wrong : {A : Type 0} → ◌≡◌ {A = Bool} false true → A
wrong e = absurd (let z : ◌≡◌ {A = ℕ} 0 1 = cc in omega arith)

pub only-idle : (t : Timing) (b : List Run) → all_idle b ≡ true → Idle t b
unfolding all_idle all_pulses
only-idle t [] e = record { word = refl; count = refl; pulses = refl }
only-idle t (r ∷ b) e = let p = together.both (all_idle b) (is_idle r.kind) e in go r.kind p.1 (only-idle t b p.0)
  where
    go : (k : Sample) → is_idle k ≡ true → Idle t b → Idle t (run k r.size ∷ b)
    go idle e i = record { word = i.word; count = i.count; pulses = ap (λ (x : Bool). x && true) i.pulses }
    go mark e i = wrong e
    go space e i = wrong e
    go both e i = wrong e
    go foreign e i = wrong e

pub some-bit : (t : Timing) (b : List Run) → all_pulses t b ≡ true → all_idle b ≡ false → 1 ≤ count_in b
unfolding all_idle all_pulses
some-bit t [] e f = wrong (sym f)
some-bit t (r ∷ b) e f = let p = together.both (all_pulses t b) (pulse_or_idle t r.kind r.size b) e in go r.kind p.1 f (some-bit t b p.0)
  where
    go : (k : Sample) → pulse_or_idle t k r.size b ≡ true → all_idle b && is_idle k ≡ false → (all_idle b ≡ false → 1 ≤ count_in b) → 1 ≤ more_bits k (count_in b)
    go idle e f h = h (sym (and-true (all_idle b)) ∙ f)
    go mark e f h = omega arith
    go space e f h = omega arith
    go both e f h = wrong e
    go foreign e f h = wrong e

-- What unspoiled runs are.
pub unspoilt : (t : Timing) (b : List Run) → unspoiled t b ≡ true → (all_pulses t b ≡ true) × (count_in b ≤ 64)
unfolding unspoiled
unspoilt t b e =
    let p = together.both (all_pulses t b) (leb (length (bits_in b)) 64) e in
    let small : length (bits_in b) ≤ 64 = leb-true (length (bits_in b)) 64 p.1 in
    (p.0, omega (arith, count-is b))

pub clean-number : (t : Timing) (b : List Run) → all_pulses t b ≡ true → number_in b ≡ 21
clean-number t b e = ap (λ (x : Bool). pick x 22 21) (no-foreign t b e)

pub number-some : (b : List Run) → (21 ≤ number_in b) × (number_in b ≤ 22)
number-some b = of-pick (λ (n : ℕ). (21 ≤ n) × (n ≤ 22)) (foreign_in b) 22 21 (λ e. (omega arith, omega arith)) (λ e. (omega arith, omega arith))

-- A run that is not foreign leaves the number.
pub same_number : (r : Run) (b : List Run) → is_foreign r.kind ≡ false → number_in (r ∷ b) ≡ number_in b
unfolding foreign_in
same_number r b e = ap (λ (x : Bool). pick x 22 21) (ap (λ (x : Bool). foreign_in b || x) e ∙ or-false (foreign_in b))

-- A run of marks or spaces makes one bit more where what is before it is unspoiled and ends idle, its length is right and there is room.
judge-low : (p i w l m : Bool) → (m ≡ true → l ≡ true) → (p && (i && w) && m) ≡ (p && l && i && (w && m))
judge-low false i w l m h = refl
judge-low true false w l m h = ap (λ (x : Bool). x && (w && m)) (sym (and-false l))
judge-low true true false l m h = sym (and-false (l && true))
judge-low true true true l true h = ap (λ (x : Bool). x && true && true) (sym (h refl))
judge-low true true true l false h = sym (and-false (l && true))

module _ (t : Timing) (b : List Run) (n : ℕ) where
  abbrev pub is_next : Bool
  is_next = unspoiled t b && idle_last b

  abbrev pub right_length : Bool
  right_length = within t.least t.most n && ltb (count_in b) 64

  room : (bit : ℕ) → leb (length (bits_in b ++ bit ∷ [])) 64 ≡ ltb (count_in b) 64
  room bit =
      let size : length (bits_in b ++ bit ∷ []) ≡ count_in b + 1 = length-append (bits_in b) (bit ∷ []) ∙ ap (λ (x : ℕ). x + 1) (count-is b) in
      ap (λ (x : ℕ). leb x 64) size
      ∙ cases.by-lt (count_in b) 64 (λ h. le-leb (count_in b + 1) 64 (omega arith) ∙ sym (lt-ltb (count_in b) 64 h))
      (λ h. lt-leb (count_in b + 1) 64 (omega arith) ∙ sym (le-ltb (count_in b) 64 h))

  fewer : ltb (count_in b) 64 ≡ true → leb (length (bits_in b)) 64 ≡ true
  fewer e =
      cases.by-lt (count_in b) 64 (λ h. ap (λ (x : ℕ). leb x 64) (count-is b) ∙ le-leb (count_in b) 64 (omega arith))
      (λ h. wrong (sym (le-ltb (count_in b) 64 h) ∙ e))

  pub judge-mark : unspoiled t (run mark n ∷ b) ≡ (is_next && right_length)
  unfolding unspoiled all_pulses bits_in
  judge-mark =
      ap (λ (x : Bool). all_pulses t b && (idle_last b && within t.least t.most n) && x) (room 1)
      ∙ judge-low (all_pulses t b) (idle_last b) (within t.least t.most n) (leb (length (bits_in b)) 64) (ltb (count_in b) 64) fewer

  pub judge-space : unspoiled t (run space n ∷ b) ≡ (is_next && right_length)
  unfolding unspoiled all_pulses bits_in
  judge-space =
      ap (λ (x : Bool). all_pulses t b && (idle_last b && within t.least t.most n) && x) (room 0)
      ∙ judge-low (all_pulses t b) (idle_last b) (within t.least t.most n) (leb (length (bits_in b)) 64) (ltb (count_in b) 64) fewer

  pub judge-idle : unspoiled t (run idle n ∷ b) ≡ unspoiled t b
  unfolding unspoiled all_pulses bits_in
  judge-idle = ap₂ (λ (x : Bool) (y : List ℕ). x && leb (length y) 64) (and-true (all_pulses t b)) (append-nil (bits_in b))

  pub judge-both : unspoiled t (run both n ∷ b) ≡ false
  unfolding unspoiled all_pulses
  judge-both = ap (λ (x : Bool). x && leb (length (bits_in (run both n ∷ b))) 64) (and-false (all_pulses t b))

  pub judge-foreign : unspoiled t (run foreign n ∷ b) ≡ false
  unfolding unspoiled all_pulses
  judge-foreign = ap (λ (x : Bool). x && leb (length (bits_in (run foreign n ∷ b))) 64) (and-false (all_pulses t b))

  pub not-all : (k : Sample) → is_idle k ≡ false → all_idle (run k n ∷ b) ≡ false
  unfolding all_idle
  not-all k e = ap (λ (x : Bool). all_idle b && x) e ∙ and-false (all_idle b)

-- A spoiled message stays so.
module _ (t : Timing) (number run : ℕ) (some : 21 ≤ number) where
  pub spoilt-idle : after_idle t.least t.most (spoilt_by number run) ≡ spoilt_by number (run + 1)
  unfolding after_idle longer_idle
  spoilt-idle = rw (ne_eqb number 0 (omega arith))

  pub spoilt-low : (line : ℕ) → after_low line (spoilt_by number run) ≡ spoilt_by number 0
  unfolding after_low
  spoilt-low line = rw (ne_eqb number 0 (omega arith))

-- A run cut at 1,001 is too long or not as the whole run is.
short : (n : ℕ) → n < 1001 → min n 1001 ≡ n
short n p = omega arith

too_long : (low high n : ℕ) → high < n → within low high n ≡ false
too_long low high n h = ap (λ (x : Bool). leb low n && x) (lt-leb n high h) ∙ and-false (leb low n)

pub cut-run : (low high n : ℕ) → high ≤ 1000 → within low high (min n 1001) ≡ within low high n
cut-run low high n h =
    cases.by-lt n 1001 (λ p. ap (within low high) (short n p))
    (λ p. too_long low high (min n 1001) (omega arith) ∙ sym (too_long low high n (omega arith)))
