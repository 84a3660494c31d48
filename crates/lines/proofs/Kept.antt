-- Every legal state is safe, and so is what a step leaves that closes nothing: its run is below the gap, or of marks or spaces. Assumes nothing.
use mathlib.Core.Path.{◌≡◌, ap, ◌∙◌}
use mathlib.Core.Bool.{true, false, ◌&&◌, ◌||◌}
use Prim.Native.Nat.{ℕ, ◌+◌, ◌-◌, ◌%◌, ◌^◌, ◌<◌, ◌≤◌, min}
use native.Mathlib.Omega.{arith}
use native.Mathlib.Nat.{zero-mod}
use lib.Dec.{eqb, leb, ltb}
use borrow.Author.Tests.{eqb-true, leb-true, leb-false, ltb-true}
use Rattle.frame.specs.Line as frame
use Rattle.frame.specs.Pick.{pick, within}
use Rattle.lines.specs.declared.SoFar.{SoFar}
use Rattle.lines.specs.Sample.{Sample, idle, mark, space, both, foreign}
use Rattle.lines.specs.Timing.{Timing}
use Rattle.lines.specs.SoFar.{so_far, spoilt_by, has_no_bits, pads_clear, is_rest, is_between, is_in_run, is_spoilt, is_open, legal}
use Rattle.lines.specs.Step.{with_bit, run_ended, longer_idle, after_idle, after_low, after_both, after, closes}
use Rattle.lines.specs.Inside.Safe.{Safe}
use Rattle.lines.proofs.Cases.{of-pick, either}
use Rattle.frame.proofs.Both as together
use Rattle.lines.proofs.Places.{pads-more}

-- A state without bits.
pub bare : (number run : ℕ) → run ≤ 10000 → Safe (spoilt_by number run)
bare number run h = record { count = omega arith; pads = zero-mod (2 ^ 64); run = h }

empty : (s : SoFar) → has_no_bits s ≡ true → s.run ≤ 10000 → Safe s
empty s e h =
    let t = together.both (eqb s.bits 0) (eqb s.count 0) e in
    let none : s.bits ≡ 0 = eqb-true s.bits 0 t.0 in
    let count : s.count ≡ 0 = eqb-true s.count 0 t.1 in
    record { count = omega arith; pads = ap (λ (x : ℕ). x % 2 ^ (64 - s.count)) none ∙ zero-mod (2 ^ (64 - s.count)); run = h }

clear : (s : SoFar) → pads_clear s ≡ true → s.run ≤ 10000 → Safe s
clear s e h =
    let t = together.both (leb s.count 64) (eqb (s.bits % 2 ^ (64 - s.count)) 0) e in
    record { count = leb-true s.count 64 t.0; pads = eqb-true (s.bits % 2 ^ (64 - s.count)) 0 t.1; run = h }

up_to : (low high n : ℕ) → within low high n ≡ true → n ≤ high
up_to low high n e = leb-true n high (together.both (leb low n) (leb n high) e).1

pub legal-safe : (s : SoFar) → legal s ≡ true → Safe s
unfolding legal
legal-safe s e =
    either (is_rest s || is_between s || is_in_run s) (is_spoilt s) e
    (λ e. either (is_rest s || is_between s) (is_in_run s) e
    (λ e. either (is_rest s) (is_between s) e rest between) in-run) spoilt
  where
    rest : is_rest s ≡ true → Safe s
    rest e =
        let t = together.both (eqb s.fault 0 && eqb s.line 0 && has_no_bits s) (eqb s.run 0) e in
        let run : s.run ≡ 0 = eqb-true s.run 0 t.1 in
        empty s (together.both (eqb s.fault 0 && eqb s.line 0) (has_no_bits s) t.0).1 (omega arith)

    between : is_between s ≡ true → Safe s
    between e =
        let t = together.both (eqb s.fault 0 && eqb s.line 0 && leb 1 s.count && pads_clear s) (within 1 9999 s.run) e in
        clear s (together.both (eqb s.fault 0 && eqb s.line 0 && leb 1 s.count) (pads_clear s) t.0).1 (omega (arith, up_to 1 9999 s.run t.1))

    in-run : is_in_run s ≡ true → Safe s
    in-run e =
        let t = together.both (eqb s.fault 0 && within 1 2 s.line && pads_clear s) (within 1 1001 s.run) e in
        clear s (together.both (eqb s.fault 0 && within 1 2 s.line) (pads_clear s) t.0).1 (omega (arith, up_to 1 1001 s.run t.1))

    spoilt : is_spoilt s ≡ true → Safe s
    spoilt e =
        let t = together.both (within 21 22 s.fault && eqb s.line 0 && has_no_bits s) (leb s.run 9999) e in
        empty s (together.both (within 21 22 s.fault && eqb s.line 0) (has_no_bits s) t.0).1 (omega (arith, leb-true s.run 9999 t.1))

-- What a step leaves has at most 64 bits, and is safe, or closes.
abbrev pub Keeps : Timing → SoFar → Type 0
Keeps t s = (s.count ≤ 64) × (closes t s ≡ false → Safe s)

keeps : (t : Timing) (s : SoFar) → Safe s → Keeps t s
keeps t s safe = (safe.count, λ on. safe)

module _ (t : Timing) (s : SoFar) (gap : t.gap ≤ 10000) (safe : Safe s) where
  ended : Keeps t (run_ended t.least t.most s)
  unfolding run_ended with_bit
  ended =
      of-pick (Keeps t) (within t.least t.most s.run && ltb s.count 64) (with_bit s) (spoilt_by 21 1)
      (λ e.
      let more : s.count < 64 = ltb-true s.count 64 (together.both (within t.least t.most s.run) (ltb s.count 64) e).1 in
      keeps t (with_bit s)
      (record {
        count = omega arith;
        pads = pads-more s.bits (frame.mark (eqb s.line 1)) s.count more safe.pads;
        run = omega arith;
      }))
      (λ e. keeps t (spoilt_by 21 1) (bare 21 1 (omega arith)))

  longer : Keeps t (longer_idle s)
  unfolding longer_idle
  longer =
      of-pick (Keeps t) (is_open s) (so_far s.bits (s.run + 1) s.count 0 s.fault) s
      (λ e. (
        safe.count,
        λ on.
            let below : s.run + 1 < t.gap = leb-false t.gap (s.run + 1) on in
            record { count = safe.count; pads = safe.pads; run = omega arith },
      ))
      (λ e. keeps t s safe)

  low : (line : ℕ) → Keeps t (after_low line s)
  unfolding after_low
  low line =
      of-pick (Keeps t) (eqb s.fault 0)
      (pick (eqb s.line 0) (so_far s.bits 1 s.count line 0)
      (pick (eqb s.line line) (so_far s.bits (min (s.run + 1) 1001) s.count line 0) (spoilt_by 21 0)))
      (spoilt_by s.fault 0)
      (λ e. of-pick (Keeps t) (eqb s.line 0) (so_far s.bits 1 s.count line 0)
      (pick (eqb s.line line) (so_far s.bits (min (s.run + 1) 1001) s.count line 0) (spoilt_by 21 0))
      (λ e. (safe.count, λ on. record { count = safe.count; pads = safe.pads; run = omega arith }))
      (λ e. of-pick (Keeps t) (eqb s.line line) (so_far s.bits (min (s.run + 1) 1001) s.count line 0) (spoilt_by 21 0)
      (λ e. (safe.count, λ on. record { count = safe.count; pads = safe.pads; run = omega arith }))
      (λ e. keeps t (spoilt_by 21 0) (bare 21 0 (omega arith)))))
      (λ e. keeps t (spoilt_by s.fault 0) (bare s.fault 0 (omega arith)))

  pub kept : (k : Sample) → Keeps t (after t s k)
  unfolding after_idle after_both
  kept idle = of-pick (Keeps t) (eqb s.line 0) (longer_idle s) (run_ended t.least t.most s) (λ e. longer) (λ e. ended)
  kept mark = low 1
  kept space = low 2
  kept both = let n : ℕ = pick (eqb s.fault 22) 22 21 in keeps t (spoilt_by n 0) (bare n 0 (omega arith))
  kept foreign = let n : ℕ = pick (eqb s.fault 22) 22 22 in keeps t (spoilt_by n 0) (bare n 0 (omega arith))
