-- What a pace within its ranges has. Assumes nothing.
use mathlib.Core.Path.{◌≡◌}
use mathlib.Core.Bool.{false, ◌||◌, not}
use Prim.Native.Nat.{◌≤◌}
use lib.Dec.{leb, ltb}
use borrow.Author.Tests.{leb-true, ltb-false, not-false}
use Rattle.frame.specs.Pick.{within}
use Rattle.frame.proofs.Both.{both}
use Rattle.lines.specs.Timing.{bad_timing}
use Rattle.lines.proofs.Cases.{none_of}
use Rattle.drawing.specs.Pulses.{bad_pulse}
use Rattle.drawing.proofs.Answers.{good-pulse}
use Rattle.polling.specs.declared.Pace.{Pace}
use Rattle.polling.specs.Pace.{timing_of, bad_pace}

pub record Good (p : Pace) : Type 0 where
  pub pulses : bad_pulse p.low p.still ≡ false
  pub low : p.low ≤ 1000
  pub still : p.still ≤ 10000
  pub delay : p.delay ≤ 1000000
  pub some_gap : 1 ≤ p.gap
  pub gap : p.gap ≤ 10000
  pub some : 1 ≤ p.wait
  pub wait : p.wait ≤ p.longest
  pub longest : p.longest ≤ 10000000
  pub once : 1 ≤ p.tries
  pub tries : p.tries ≤ 9

module _ (p : Pace) (e : bad_pace p ≡ false) where
  pub good : Good p
  good =
      let a : _ = bad_pulse p.low p.still in
      let b : _ = ltb 1000000 p.delay in
      let c : _ = bad_timing (timing_of p) in
      let d : _ = not (within 1 1000000 p.wait) in
      let f : _ = not (within p.wait 10000000 p.longest) in
      let g : _ = not (within 1 9 p.tries) in
      let e₁ = none_of (a || b || c || d || f) g e in
      let e₂ = none_of (a || b || c || d) f e₁.0 in
      let e₃ = none_of (a || b || c) d e₂.0 in
      let e₄ = none_of (a || b) c e₃.0 in
      let e₅ = none_of a b e₄.0 in
      let pulse = good-pulse p.low p.still e₅.0 in
      let t = none_of (ltb p.most p.least || not (within 1 1000 p.least) || not (within 1 1000 p.most)) (not (within 1 10000 p.gap)) e₄.1 in
      let gap = both (leb 1 p.gap) (leb p.gap 10000) (not-false (within 1 10000 p.gap) t.1) in
      let wait = both (leb 1 p.wait) (leb p.wait 1000000) (not-false (within 1 1000000 p.wait) e₃.1) in
      let longest = both (leb p.wait p.longest) (leb p.longest 10000000) (not-false (within p.wait 10000000 p.longest) e₂.1) in
      let tries = both (leb 1 p.tries) (leb p.tries 9) (not-false (within 1 9 p.tries) e₁.1) in
      record {
        pulses = e₅.0;
        low = pulse.1;
        still = pulse.3;
        delay = ltb-false 1000000 p.delay e₅.1;
        some_gap = leb-true 1 p.gap gap.0;
        gap = leb-true p.gap 10000 gap.1;
        some = leb-true 1 p.wait wait.0;
        wait = leb-true p.wait p.longest longest.0;
        longest = leb-true p.longest 10000000 longest.1;
        once = leb-true 1 p.tries tries.0;
        tries = leb-true p.tries 9 tries.1;
      }
