-- Each legal state is left by a call from the beginning: its bits are drawn as pulses of one sample with one idle sample between them, from the last to the first by
-- induction on their count; then the run that the state is in goes on as far as it says. Assumes nothing.
use mathlib.Core.Path.{◌≡◌, refl, sym, ap, subst, ◌∙◌}
use mathlib.Core.Bool.{Bool, true, false, not, ◌&&◌}
use mathlib.Core.List.{List, [], ◌∷◌, ◌++◌, map, append-nil}
use Prim.Native.Nat.{ℕ, zero, suc, ◌+◌, ◌-◌, ◌*◌, ◌/◌, ◌%◌, ◌^◌, ◌<◌, ◌≤◌, min}
use native.Mathlib.Omega.{arith}
use native.Mathlib.Numerals.{add-one}
use native.Mathlib.Nat.{div-add-mod', mul_assoc, add-mul, mul-mod_left, mod-eq_of_lt, zero-add}
use lib.Dec.{eqb, ltb}
use lib.ListN.{length, replicate}
use lib.Pow.{pow-add}
use borrow.Author.Tests.{ne_eqb, lt-ltb, lt-leb, eqb-true, eqb-false}
use Rattle.frame.specs.Pick.{pick}
use Rattle.frame.specs.Line as frame
use Rattle.lines.specs.declared.SoFar.{SoFar}
use Rattle.lines.specs.declared.LinesTold.{LinesTold}
use Rattle.lines.specs.Sample.{Sample, idle, sample_of}
use Rattle.lines.specs.Timing.{Timing, timing, bad_timing}
use Rattle.lines.specs.SoFar.{so_far, rest_state, spoilt_by, is_open, legal}
use Rattle.lines.specs.Step.{with_bit, run_ended, longer_idle, after_idle, after_low, after_both, after, closes}
use Rattle.lines.specs.Hearing.{nothing, hearing, later, hear}
use Rattle.lines.specs.Calls.{answered, HearsLines}
use Rattle.promises_lines.specs.History.{tellings}
use Rattle.promises_lines.proofs.Words.{Clear}
use Rattle.promises_lines.proofs.Legal.{Legal, rest, between, in-run, spoilt, view, is-legal}
use Rattle.promises_lines.proofs.Quiet.{Quiet, quiet-append, quiet-hear}
use Rattle.promises_lines.proofs.Ends.{meant_itself, heard-by}
use Rattle.promises_lines.proofs.Streams.{map-append}

abbrev t : Timing
t = timing 1 1 10000

-- bytes that lead quietly from the beginning to a state
record Leads (s : SoFar) : Type 0 where
  bytes : List ℕ
  quiet : Quiet t rest_state (map sample_of bytes) s

further : {s n : SoFar} → Leads s → (bytes : List ℕ) → Quiet t s (map sample_of bytes) n → Leads n
further {s} {n} l bytes q =
    record {
      bytes = l.bytes ++ bytes;
      quiet = subst (λ (ks : List Sample). Quiet t rest_state ks n) (sym (map-append l.bytes bytes))
          (quiet-append t rest_state s n (map sample_of l.bytes) (map sample_of bytes) l.quiet q);
    }

-- idle that goes on after what is open
idles : (bits count fault : ℕ) → is_open (so_far bits 0 count 0 fault) ≡ true → (i j : ℕ) → j + i ≤ 9999
    → Quiet t (so_far bits j count 0 fault) (map sample_of (replicate i 0)) (so_far bits (j + i) count 0 fault)
idles bits count fault wide zero j l = let same : j ≡ j + 0 = omega arith in ap (λ (r : ℕ). so_far bits r count 0 fault) same
idles bits count fault wide (suc i) j l =
    let step : after t (so_far bits j count 0 fault) idle ≡ so_far bits (j + 1) count 0 fault = one in
    let more : j + 1 + i ≡ j + suc i = omega arith in (
      ap (closes t) step ∙ lt-leb 10000 (j + 1) (omega arith),
      subst (λ (s : SoFar). Quiet t s (map sample_of (replicate i 0)) (so_far bits (j + suc i) count 0 fault)) (sym step)
          (subst (λ (r : ℕ). Quiet t (so_far bits (j + 1) count 0 fault) (map sample_of (replicate i 0)) (so_far bits r count 0 fault)) more
          (idles bits count fault wide i (j + 1) (omega arith))),
    )
  where
    one : after t (so_far bits j count 0 fault) idle ≡ so_far bits (j + 1) count 0 fault
    one = unfold after_idle longer_idle in ap (λ (b : Bool). pick b (so_far bits (j + 1) count 0 fault) (so_far bits j count 0 fault)) wide

-- a line that is low: mark or space
abbrev line_of : Bool → ℕ
line_of true = 1
line_of false = 2

low_step : (b : Bool) (s : SoFar) → after t s (sample_of (line_of b)) ≡ after_low (line_of b) s
low_step true s = refl
low_step false s = refl

low-begins : (b : Bool) (bits run count : ℕ) → after t (so_far bits run count 0 0) (sample_of (line_of b)) ≡ so_far bits 1 count (line_of b) 0
low-begins b bits run count =
    let opened : after_low (line_of b) (so_far bits run count 0 0) ≡ so_far bits 1 count (line_of b) 0 = unfold after_low in refl in
    low_step b (so_far bits run count 0 0) ∙ opened

low-goes-on : (b : Bool) (bits run count : ℕ) → run + 1 ≤ 1001
    → after t (so_far bits run count (line_of b) 0) (sample_of (line_of b)) ≡ so_far bits (run + 1) count (line_of b) 0
low-goes-on b bits run count l =
    let fits : min (run + 1) 1001 ≡ run + 1 = omega arith in
    low_step b (so_far bits run count (line_of b) 0) ∙ opened b ∙ ap (λ (r : ℕ). so_far bits r count (line_of b) 0) fits
  where
    opened : (b : Bool) → after_low (line_of b) (so_far bits run count (line_of b) 0) ≡ so_far bits (min (run + 1) 1001) count (line_of b) 0
    opened true = unfold after_low in refl
    opened false = unfold after_low in refl

low-open : (b : Bool) (bits run count : ℕ) → closes t (so_far bits run count (line_of b) 0) ≡ false
low-open true bits run count = refl
low-open false bits run count = refl

lows : (b : Bool) (bits count i j : ℕ) → j + i ≤ 1001
    → Quiet t (so_far bits j count (line_of b) 0) (map sample_of (replicate i (line_of b))) (so_far bits (j + i) count (line_of b) 0)
lows b bits count zero j l = let same : j ≡ j + 0 = omega arith in ap (λ (r : ℕ). so_far bits r count (line_of b) 0) same
lows b bits count (suc i) j l =
    let step = low-goes-on b bits j count (omega arith) in
    let more : j + 1 + i ≡ j + suc i = omega arith in (
      ap (closes t) step ∙ low-open b bits (j + 1) count,
      subst (λ (s : SoFar). Quiet t s (map sample_of (replicate i (line_of b))) (so_far bits (j + suc i) count (line_of b) 0)) (sym step)
          (subst (λ (r : ℕ). Quiet t (so_far bits (j + 1) count (line_of b) 0) (map sample_of (replicate i (line_of b))) (so_far bits r count (line_of b) 0)) more
          (lows b bits count i (j + 1) (omega arith))),
    )

-- a pulse of one sample is a bit
pulse-ends : (b : Bool) (bits count : ℕ) → count < 64
    → after t (so_far bits 1 count (line_of b) 0) idle ≡ so_far (bits + frame.put (frame.mark b) (count + 1)) 1 (count + 1) 0 0
pulse-ends b bits count l = opened b ∙ ap (λ (x : Bool). pick x (so_far (bits + frame.put (frame.mark b) (count + 1)) 1 (count + 1) 0 0) (spoilt_by 21 1)) (lt-ltb count 64 l)
  where
    opened : (b : Bool) → after t (so_far bits 1 count (line_of b) 0) idle
        ≡ pick (ltb count 64) (so_far (bits + frame.put (frame.mark b) (count + 1)) 1 (count + 1) 0 0) (spoilt_by 21 1)
    opened true = unfold after_idle run_ended with_bit in refl
    opened false = unfold after_idle run_ended with_bit in refl

two_steps : (s n m : SoFar) (j k : Sample) → after t s j ≡ n → closes t n ≡ false → after t n k ≡ m → closes t m ≡ false → Quiet t s (j ∷ k ∷ []) m
two_steps s n m j k e c f d =
    let whole = ap (λ (x : SoFar). after t x k) e ∙ f in (ap (closes t) e ∙ c, (ap (closes t) whole ∙ d, whole))

-- the last bit of a word, and the word without it
record Split (bits count : ℕ) : Type 0 where
  last : Bool
  before : ℕ
  sum : bits ≡ before + frame.put (frame.mark last) (count + 1)
  pads : before % 2 ^ (64 - count) ≡ 0

joined : (bits q place double m : ℕ) → q * place ≡ bits → double ≡ 2 * place → m ≡ q % 2 → bits ≡ q / 2 * double + m * place
joined bits q place double m whole twice last =
    let halves : q ≡ q / 2 * 2 + q % 2 = omega arith in
    sym whole ∙ ap (λ (x : ℕ). x * place) halves ∙ add-mul (q / 2 * 2) (q % 2) place
    ∙ (λ i. (mul_assoc (q / 2) 2 place ∙ ap (λ (x : ℕ). q / 2 * x) (sym twice)) i + sym last i * place)

split-word : (bits count : ℕ) → count < 64 → bits % 2 ^ (64 - (count + 1)) ≡ 0 → Split bits count
split-word bits count l none =
    record { last = eqb (bits / 2 ^ (64 - (count + 1)) % 2) 1; before = bits / 2 ^ (64 - (count + 1)) / 2 * 2 ^ (64 - count); sum = total; pads = mul-mod_left (bits / 2 ^ (64 - (count + 1)) / 2) (2 ^ (64 - count)) }
  where
    twice : 2 ^ (64 - count) ≡ 2 * 2 ^ (64 - (count + 1))
    twice = let one : 64 - count ≡ 1 + (64 - (count + 1)) = omega arith in ap (λ (x : ℕ). 2 ^ x) one ∙ pow-add 2 1 (64 - (count + 1))

    marked : (r : ℕ) → r < 2 → frame.mark (eqb r 1) ≡ r
    marked r small = go (eqb r 1) refl
      where
        go : (b : Bool) → eqb r 1 ≡ b → frame.mark b ≡ r
        go true e = sym (eqb-true r 1 e)
        go false e = let other = eqb-false r 1 e in omega arith

    total : bits ≡ bits / 2 ^ (64 - (count + 1)) / 2 * 2 ^ (64 - count) + frame.put (frame.mark (eqb (bits / 2 ^ (64 - (count + 1)) % 2) 1)) (count + 1)
    total =
        let sum = div-add-mod' bits (2 ^ (64 - (count + 1))) in
        let whole : bits / 2 ^ (64 - (count + 1)) * 2 ^ (64 - (count + 1)) ≡ bits = omega (arith, sum, none) in
        joined bits (bits / 2 ^ (64 - (count + 1))) (2 ^ (64 - (count + 1))) (2 ^ (64 - count)) (frame.mark (eqb (bits / 2 ^ (64 - (count + 1)) % 2) 1)) whole twice (marked (bits / 2 ^ (64 - (count + 1)) % 2) (omega arith))

-- the bits drawn, with one idle sample after the last
abbrev first_run : ℕ → ℕ
first_run zero = 0
first_run (suc count) = 1

draws : (count bits : ℕ) → count ≤ 64 → bits % 2 ^ (64 - count) ≡ 0 → bits < 2 ^ 64 → Leads (so_far bits (first_run count) count 0 0)
draws zero bits l pads small =
    let none : bits ≡ 0 = sym (mod-eq_of_lt small) ∙ pads in
    record { bytes = []; quiet = ap (λ (n : ℕ). so_far n 0 0 0 0) (sym none) }
draws (suc count) bits l pads small =
    let clear : bits % 2 ^ (64 - (count + 1)) ≡ 0 = ap (λ (k : ℕ). bits % 2 ^ (64 - k)) (add-one count) ∙ pads in
    let s = split-word bits count (omega arith) clear in
    let whole = s.sum in
    let first = draws count s.before (omega arith) s.pads (omega (arith, whole, small)) in
    let end : so_far (s.before + frame.put (frame.mark s.last) (count + 1)) 1 (count + 1) 0 0 ≡ so_far bits 1 (suc count) 0 0 =
    (λ i. so_far (sym whole i) 1 (add-one count i) 0 0) in
    further first (line_of s.last ∷ 0 ∷ [])
    (two_steps (so_far s.before (first_run count) count 0 0) (so_far s.before 1 count (line_of s.last) 0) (so_far bits 1 (suc count) 0 0) (sample_of (line_of s.last)) idle
    (low-begins s.last s.before (first_run count) count) (low-open s.last s.before 1 count)
    (pulse-ends s.last s.before count (omega arith) ∙ end) refl)

-- then the run that the state is in
goes-low : (b : Bool) (bits run count : ℕ) → Clear bits count → bits < 2 ^ 64 → 1 ≤ run → run ≤ 1001 → Leads (so_far bits run count (line_of b) 0)
goes-low b bits zero count clear small p q = absurd (omega arith)
goes-low b bits (suc run) count clear small p q =
    let step = low-begins b bits (first_run count) count in
    let more : 1 + run ≡ suc run = omega arith in
    further (draws count bits clear.small clear.pads small) (replicate (suc run) (line_of b)) (
      ap (closes t) step ∙ low-open b bits 1 count,
      subst (λ (s : SoFar). Quiet t s (map sample_of (replicate run (line_of b))) (so_far bits (suc run) count (line_of b) 0)) (sym step)
          (subst (λ (r : ℕ). Quiet t (so_far bits 1 count (line_of b) 0) (map sample_of (replicate run (line_of b))) (so_far bits r count (line_of b) 0)) more
          (lows b bits count run 1 (omega arith))),
    )

goes-idle : (bits run count : ℕ) → 1 ≤ count → Clear bits count → bits < 2 ^ 64 → 1 ≤ run → run ≤ 9999 → Leads (so_far bits run count 0 0)
goes-idle bits run zero some clear small p q = absurd (omega arith)
goes-idle bits zero (suc count) some clear small p q = absurd (omega arith)
goes-idle bits (suc run) (suc count) some clear small p q =
    let more : 1 + run ≡ suc run = omega arith in
    let wide : is_open (so_far bits 0 (suc count) 0 0) ≡ true = ap (λ (b : Bool). not (b && true)) (ne_eqb (suc count) 0 (λ z. absurd (omega arith))) in
    further (draws (suc count) bits clear.small clear.pads small) (replicate run 0)
    (subst (λ (r : ℕ). Quiet t (so_far bits 1 (suc count) 0 0) (map sample_of (replicate run 0)) (so_far bits r (suc count) 0 0)) more
    (idles bits (suc count) 0 wide run 1 (omega arith)))

abbrev number_of : Bool → ℕ
number_of true = 21
number_of false = 22

-- both lines low, and a byte above 3
abbrev spoils : Bool → ℕ
spoils true = 3
spoils false = 4

goes-spoilt : (b : Bool) (run : ℕ) → run ≤ 9999 → Leads (spoilt_by (number_of b) run)
goes-spoilt b run l =
    further (further (record { bytes = []; quiet = refl }) (spoils b ∷ []) (begins b)) (replicate run 0)
    (subst (λ (r : ℕ). Quiet t (spoilt_by (number_of b) 0) (map sample_of (replicate run 0)) (spoilt_by (number_of b) r)) (zero-add run) (idles 0 0 (number_of b) (wide b) run 0 (omega arith)))
  where
    begins : (b : Bool) → Quiet t rest_state (map sample_of (spoils b ∷ [])) (spoilt_by (number_of b) 0)
    begins true = unfold after_both in (refl, refl)
    begins false = unfold after_both in (refl, refl)

    wide : (b : Bool) → is_open (so_far 0 0 0 0 (number_of b)) ≡ true
    wide true = refl
    wide false = refl

-- a number of two
of_two : (n low : ℕ) (P : ℕ → Type 0) → low ≤ n → n ≤ low + 1 → P low → P (low + 1) → P n
of_two n low P p q one two = go (eqb n low) refl
  where
    go : (b : Bool) → eqb n low ≡ b → P n
    go true e = subst P (sym (eqb-true n low e)) one
    go false e =
        let other = eqb-false n low e in
        let is : low + 1 ≡ n = omega arith in
        subst P is two

leads : {s : SoFar} → Legal s → s.bits < 2 ^ 64 → Leads s
leads rest small = record { bytes = []; quiet = refl }
leads (between bits run count some clear p q) small = goes-idle bits run count some clear small p q
leads (in-run bits run count line a b clear p q) small =
    of_two line 1 (λ (l : ℕ). Leads (so_far bits run count l 0)) a b (goes-low true bits run count clear small p q) (goes-low false bits run count clear small p q)
leads (spoilt number run a b q) small = of_two number 21 (λ (n : ℕ). Leads (spoilt_by n run)) a b (goes-spoilt true run q) (goes-spoilt false run q)

-- a call that hears quiet samples leaves the state that they lead to, and tells nothing
pub reached-from : (s : SoFar) → legal s ≡ true → s.bits < 2 ^ 64
    → (samples : List ℕ) × ((a : LinesTold) → HearsLines rest_state 1 1 10000 samples a → (a.so_far ≡ s) × (tellings a ≡ []))
reached-from s ok small = ((leads (view s ok) small).bytes, answers)
  where
    answers : (a : LinesTold) → HearsLines rest_state 1 1 10000 (leads (view s ok) small).bytes a → (a.so_far ≡ s) × (tellings a ≡ [])
    answers a c =
        let bytes = (leads (view s ok) small).bytes in
        let good : bad_timing t ≡ false = refl in
        let heard-none : hear t s [] ≡ hearing nothing s 0 = unfold hear in refl in
        let all : hear t rest_state bytes ≡ later (length bytes) (hearing nothing s 0) =
        ap (hear t rest_state) (sym (append-nil bytes)) ∙ quiet-hear t rest_state s bytes [] (leads (view s ok) small).quiet ∙ ap (later (length bytes)) heard-none in
        let is : a ≡ answered (later (length bytes) (hearing nothing s 0)) =
        heard-by rest_state 1 1 10000 bytes a good c ∙ ap (λ (n : SoFar). answered (hear t n bytes)) (meant_itself rest_state (is-legal rest)) ∙ ap answered all in
        (ap (λ (x : LinesTold). x.so_far) is, ap tellings is)
