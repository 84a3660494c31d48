-- What a good pace has, number by number.
use mathlib.Core.Path.{◌≡◌}
use mathlib.Core.Bool.{false, not, ◌||◌}
use Prim.Native.Nat.{ℕ, ◌≤◌}
use lib.Dec.{leb, ltb}
use borrow.Author.Tests.{leb-true, not-false}
use Rattle.frame.specs.Pick.{within}
use Rattle.frame.proofs.Both as together
use Rattle.lines.specs.Timing.{bad_timing}
use Rattle.lines.proofs.Cases.{none_of}
use Rattle.drawing.specs.Pulses.{bad_pulse}
use Rattle.polling.specs.declared.Pace.{Pace}
use Rattle.polling.specs.Pace.{timing_of, bad_pace}

pub record Fine (p : Pace) : Type 0 where
  pub pulse : bad_pulse p.low p.still ≡ false
  pub timing : bad_timing (timing_of p) ≡ false
  pub low : 1 ≤ p.low
  pub still : 1 ≤ p.still
  pub wait : 1 ≤ p.wait
  pub longest : p.wait ≤ p.longest
  pub tries : 1 ≤ p.tries

in-range : (low high n : ℕ) → not (within low high n) ≡ false → (low ≤ n) × (n ≤ high)
in-range low high n e =
    let b = together.both (leb low n) (leb n high) (not-false (within low high n) e) in (leb-true low n b.0, leb-true n high b.1)

pub fine-pace : (p : Pace) → bad_pace p ≡ false → Fine p
fine-pace p e =
    let a = none_of (bad_pulse p.low p.still || ltb 1000000 p.delay || bad_timing (timing_of p) || not (within 1 1000000 p.wait) || not (within p.wait 10000000 p.longest)) (not (within 1 9 p.tries)) e in
    let b = none_of (bad_pulse p.low p.still || ltb 1000000 p.delay || bad_timing (timing_of p) || not (within 1 1000000 p.wait)) (not (within p.wait 10000000 p.longest)) a.0 in
    let c = none_of (bad_pulse p.low p.still || ltb 1000000 p.delay || bad_timing (timing_of p)) (not (within 1 1000000 p.wait)) b.0 in
    let d = none_of (bad_pulse p.low p.still || ltb 1000000 p.delay) (bad_timing (timing_of p)) c.0 in
    let f = none_of (bad_pulse p.low p.still) (ltb 1000000 p.delay) d.0 in
    let g = none_of (not (within 1 1000 p.low)) (not (within 1 10000 p.still)) f.0 in
    record {
      pulse = f.0;
      timing = d.1;
      low = (in-range 1 1000 p.low g.0).0;
      still = (in-range 1 10000 p.still g.1).0;
      wait = (in-range 1 1000000 p.wait c.1).0;
      longest = (in-range p.wait 10000000 p.longest b.1).0;
      tries = (in-range 1 9 p.tries a.1).0;
    }
