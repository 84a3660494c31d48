-- The lines are at rest after samples that closed nothing exactly where all of them were idle: one step at a time, by the kinds of states that calls leave.
use mathlib.Core.Path.{◌≡◌, refl, sym, ap, ◌∙◌}
use mathlib.Core.Bool.{Bool, true, false, not, ◌&&◌, and-true, and-false}
use Prim.Native.Nat.{ℕ, ◌+◌, ◌≤◌, min}
use native.Mathlib.Omega.{arith}
use lib.Dec.{eqb, ltb}
use borrow.Author.Tests.{ne_eqb}
use Rattle.frame.specs.Pick.{pick, within}
use Rattle.frame.specs.Line as frame
use Rattle.lines.specs.declared.SoFar.{SoFar}
use Rattle.lines.specs.Sample.{Sample, idle, mark, space, both, foreign}
use Rattle.lines.specs.Timing.{Timing}
use Rattle.lines.specs.SoFar.{so_far, spoilt_by, is_rest}
use Rattle.lines.specs.Step.{with_bit, run_ended, longer_idle, after_idle, after_low, after_both, after}
use Rattle.lines.proofs.Cases.{of-pick}
use Rattle.promises_lines.specs.Runs.{is_idle}
use Rattle.promises_lines.proofs.Legal.{Legal, rest, between, in-run, spoilt}

by-line : (a b c d e : Bool) → b ≡ false → (a && b && (c && d) && e) ≡ false
by-line true b c d e h = rw h
by-line false b c d e h = refl

by_count : (a b c d e : Bool) → d ≡ false → (a && b && (c && d) && e) ≡ false
by_count true true true d e h = rw h
by_count true true false d e h = refl
by_count true false c d e h = refl
by_count false b c d e h = refl

open-line : (bits run count line fault : ℕ) → 1 ≤ line → is_rest (so_far bits run count line fault) ≡ false
open-line bits run count line fault h = by-line (eqb fault 0) (eqb line 0) (eqb bits 0) (eqb count 0) (eqb run 0) (ne_eqb line 0 (omega arith))

open-count : (bits run count line fault : ℕ) → 1 ≤ count → is_rest (so_far bits run count line fault) ≡ false
open-count bits run count line fault h = by_count (eqb fault 0) (eqb line 0) (eqb bits 0) (eqb count 0) (eqb run 0) (ne_eqb count 0 (omega arith))

open-fault : (number run : ℕ) → 21 ≤ number → is_rest (spoilt_by number run) ≡ false
open-fault number run h = rw (ne_eqb number 0 (omega arith))

-- One line low, both, or the end of a run leave nothing at rest.
low-open : (line : ℕ) → 1 ≤ line → {s : SoFar} → Legal s → is_rest (after_low line s) ≡ false
unfolding after_low
low-open line h rest = open-line 0 1 0 line 0 h
low-open line h (between bits run count c clear r u) = open-line bits 1 count line 0 h
low-open line h (in-run bits run count l a b clear r u) =
    rw (ne_eqb l 0 (omega arith))
    (of-pick (λ (n : SoFar). is_rest n ≡ false) (eqb l line) (so_far bits (min (run + 1) 1001) count line 0) (spoilt_by 21 0)
    (λ e. open-line bits (min (run + 1) 1001) count line 0 h) (λ e. open-fault 21 0 (omega arith)))
low-open line h (spoilt number run a b u) = rw (ne_eqb number 0 (omega arith)) (open-fault number 0 a)

both-open : (number : ℕ) → 21 ≤ number → (s : SoFar) → is_rest (after_both number s) ≡ false
unfolding after_both
both-open number h s =
    of-pick (λ (n : ℕ). is_rest (spoilt_by n 0) ≡ false) (eqb s.fault 22) 22 number (λ e. open-fault 22 0 (omega arith)) (λ e. open-fault number 0 h)

ended-open : (least most : ℕ) (bits run count line : ℕ) → is_rest (run_ended least most (so_far bits run count line 0)) ≡ false
unfolding run_ended with_bit
ended-open least most bits run count line =
    of-pick (λ (n : SoFar). is_rest n ≡ false) (within least most run && ltb count 64) (with_bit (so_far bits run count line 0)) (spoilt_by 21 1)
    (λ e. open-count (bits + frame.put (frame.mark (eqb line 1)) (count + 1)) 1 (count + 1) 0 0 (omega arith)) (λ e. open-fault 21 1 (omega arith))

idle-rest : (least most : ℕ) {s : SoFar} → Legal s → is_rest (after_idle least most s) ≡ is_rest s
unfolding after_idle longer_idle
idle-rest least most rest = refl
idle-rest least most (between bits run count c clear r u) =
    ap (λ (b : Bool). is_rest (pick (not (b && true)) (so_far bits (run + 1) count 0 0) (so_far bits run count 0 0))) (ne_eqb count 0 (omega arith))
    ∙ open-count bits (run + 1) count 0 0 c ∙ sym (open-count bits run count 0 0 c)
idle-rest least most (in-run bits run count l a b clear r u) =
    let s : SoFar = so_far bits run count l 0 in
    ap (λ (b : Bool). is_rest (pick b (longer_idle s) (run_ended least most s))) (ne_eqb l 0 (omega arith)) ∙ ended-open least most bits run count l ∙ sym (open-line bits run count l 0 a)
idle-rest least most (spoilt number run a b u) =
    ap (λ (b : Bool). is_rest (pick (not b) (spoilt_by number (run + 1)) (spoilt_by number run))) (ne_eqb number 0 (omega arith))
    ∙ open-fault number (run + 1) a ∙ sym (open-fault number run a)

pub rest-step : (t : Timing) {s : SoFar} → Legal s → (k : Sample) → is_rest (after t s k) ≡ (is_rest s && is_idle k)
rest-step t {s} l idle = idle-rest t.least t.most l ∙ sym (and-true (is_rest s))
rest-step t {s} l mark = low-open 1 (omega arith) l ∙ sym (and-false (is_rest s))
rest-step t {s} l space = low-open 2 (omega arith) l ∙ sym (and-false (is_rest s))
rest-step t {s} l both = both-open 21 (omega arith) s ∙ sym (and-false (is_rest s))
rest-step t {s} l foreign = both-open 22 (omega arith) s ∙ sym (and-false (is_rest s))
