-- `lines::hear` meets its contract: at each turn what the whole batch tells is what its rest tells from the state so far, i samples later. Assumes nothing.
use mathlib.Core.Path.{◌≡◌, refl, sym, ap, ◌∙◌}
use mathlib.Core.Bool.{false}
use mathlib.Core.List.{List}
use Prim.Native.Nat.{ℕ, ◌+◌, ◌-◌, ◌^◌, ◌<◌, ◌≤◌}
use native.Mathlib.Omega.{arith}
use lib.ListN.{length, get_or, drop}
use Rattle.lines.specs.declared.SoFar.{SoFar}
use Rattle.lines.specs.Sample.{sample_of}
use Rattle.lines.specs.Timing.{Timing, timing}
use Rattle.lines.specs.Step.{after, closes}
use Rattle.lines.specs.SoFar.{rest_state}
use Rattle.lines.specs.Hearing.{hearing, told_of, later, hear}
use Rattle.lines.specs.Calls.{answered}
use Rattle.lines.specs.Inside.Safe.{Safe}
use Rattle.lines.specs.Inside.Runs.{RunTo, wanted_of, grown}
use Rattle.lines.proofs.Kept.{kept}
use Rattle.lines.proofs.Steps.{next-closed, next-open, at-end}
use Rattle.lines.proofs.Grown.{Kind, kind, grown-safe, many_more, enough-more}
use Rattle.lines.proofs.hear.Goals as goal

-- a turn: the first sample of a run leaves n and closes nothing, and the run ends at `end`
module _ (t : Timing) (s n : SoFar) (xs : List ℕ) (i end : ℕ) (more : i < length xs) (gap : t.gap ≤ 10000) (safe : Safe s)
    (step : n ≡ after t s (sample_of (get_or xs i 0))) (run : RunTo xs (i + 1) end (get_or xs i 0)) (on : closes t n ≡ false) where
  abbrev x : ℕ
  x = get_or xs i 0

  left-safe : Safe n
  left-safe = rw step ((kept t s gap safe (sample_of x)).1 (rw step at on))

  left-kind : Kind t x n
  left-kind = rw step (kind t x s)

  passed : (w : ℕ) → w ≡ wanted_of t.gap x n → end - (i + 1) < w
      → Safe (grown x (end - (i + 1)) n) × (later i (hear t s (drop i xs)) ≡ later end (hear t (grown x (end - (i + 1)) n) (drop end xs)))
  passed w e h =
      let k = end - (i + 1) in
      let place : i + 1 + k ≡ end = omega (arith, run.forward) in (
        grown-safe t x n gap left-safe left-kind on k,
        next-open t s n xs i more step on
            ∙ many_more t x n gap left-safe left-kind on xs (i + 1) k (omega (arith, e)) (omega (arith, run.there)) (λ j a b. run.alike j a (omega arith))
            ∙ ap (λ (m : ℕ). later m (hear t (grown x k n) (drop m xs))) place,
      )

  closed-within : (w : ℕ) → w ≡ wanted_of t.gap x n → w ≤ end - (i + 1) → length xs < 2 ^ 64 → later i (hear t s (drop i xs)) ≡ hearing (told_of n) rest_state (i + 1 + w)
  closed-within w e h long =
      next-open t s n xs i more step on
      ∙ enough-more t x n gap left-safe left-kind on xs (i + 1) w e (omega (arith, run.there)) (omega (arith, run.forward, run.there)) (λ j a b. run.alike j a (omega (arith, run.forward)))

pub closed-requires : goal.closed-requires
closed-requires c =
    let t = timing c.args.least c.args.most c.args.gap in
    rw (c.after-s.ensures c.args.gap) (kept t c.loop-i.s c.requires.gap_bound c.loop-i.invariant.1 (sample_of (get_or c.args.samples.now c.loop-i.i 0))).0

pub returns-then-closes : goal.returns-then-closes
returns-then-closes c =
    let t = timing c.args.least c.args.most c.args.gap in
    c.closed.ensures
    ∙ ap answered
    (sym (c.loop-i.invariant.2 ∙ next-closed t c.loop-i.s c.after-s.result c.args.samples.now c.loop-i.i (omega arith) (c.after-s.ensures c.args.gap)
    (sym c.closes.ensures ∙ c.if-closes.true)))

pub closed-requires-in-Some : goal.closed-requires-in-Some
closed-requires-in-Some c =
    let t = timing c.args.least c.args.most c.args.gap in
    rw (c.after-s.ensures c.args.gap) (kept t c.loop-i.s c.requires.gap_bound c.loop-i.invariant.1 (sample_of (get_or c.args.samples.now c.loop-i.i 0))).0

pub returns-in-Some : goal.returns-in-Some
returns-in-Some c =
    let t = timing c.args.least c.args.most c.args.gap in
    let w = c.in-Some in
    c.closed-in-Some.ensures
    ∙ ap answered
    (sym (c.loop-i.invariant.2
    ∙ closed-within t c.loop-i.s c.after-s.result c.args.samples.now c.loop-i.i c.run_end-end.result (omega arith) c.requires.gap_bound c.loop-i.invariant.1
    (c.after-s.ensures c.args.gap) c.run_end-end.ensures (sym c.closes.ensures ∙ c.if-closes.false)
    w.wanted w.ensures.0 w.ensures.1 (omega arith)))

pub loop-i-preserved : goal.loop-i-preserved
loop-i-preserved c =
    let t = timing c.args.least c.args.most c.args.gap in
    let p = passed t c.loop-i.s c.after-s.result c.args.samples.now c.loop-i.i c.run_end-end.result (omega arith) c.requires.gap_bound c.loop-i.invariant.1
    (c.after-s.ensures c.args.gap) c.run_end-end.ensures (sym c.closes.ensures ∙ c.if-closes.false)
    (wanted_of t.gap (get_or c.args.samples.now c.loop-i.i 0) c.after-s.result) refl c.in_default.ensures in
    (c.run_end-end.ensures.there, rw c.grown-s.ensures p.0, c.loop-i.invariant.2 ∙ rw c.grown-s.ensures p.1)

pub returns : goal.returns
returns c =
    let t = timing c.args.least c.args.most c.args.gap in
    c.left_open.ensures ∙ ap answered (sym (c.loop-i.invariant.2 ∙ at-end t c.loop-i.s c.args.samples.now c.loop-i.i (omega arith)))
