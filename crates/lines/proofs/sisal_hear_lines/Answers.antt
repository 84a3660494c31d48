-- `lines::sisal_hear_lines` meets its contract: bad timing is asked first, and else the samples are heard from what the state means. Assumes nothing.
use mathlib.Core.Path.{◌≡◌, sym, ◌∙◌}
use mathlib.Core.Bool.{false, ◌||◌, not}
use Prim.Native.Nat.{◌≤◌}
use borrow.Author.Tests.{leb-true, not-false}
use lib.Dec.{leb, ltb}
use Rattle.frame.specs.Pick.{within}
use Rattle.frame.specs.Faults.{first_of}
use Rattle.frame.proofs.Both.{both}
use Rattle.lines.specs.Timing.{Timing, timing, bad_timing, timing_fault}
use Rattle.lines.specs.Calls.{lines_answer}
use Rattle.lines.proofs.Cases.{none_of}
use Rattle.lines.proofs.sisal_hear_lines.Goals as goal

-- timing that is not bad has a gap
gap-in : (t : Timing) → bad_timing t ≡ false → (1 ≤ t.gap) × (t.gap ≤ 10000)
gap-in t e =
    let last = (none_of (ltb t.most t.least || not (within 1 1000 t.least) || not (within 1 1000 t.most)) (not (within 1 10000 t.gap)) e).1 in
    let g = both (leb 1 t.gap) (leb t.gap 10000) (not-false (within 1 10000 t.gap) last) in
    (leb-true 1 t.gap g.0, leb-true t.gap 10000 g.1)

pub returns-then-bad_timing : goal.returns-then-bad_timing
unfolding lines_answer timing_fault first_of
returns-then-bad_timing c =
    let e = sym c.bad_timing.ensures ∙ c.if-bad_timing.true in
    record { answers = c.refused.ensures ∙ simp e }

pub hear-requires : goal.hear-requires
hear-requires c =
    let g = gap-in (timing c.args.least c.args.most c.args.gap) (sym c.bad_timing.ensures ∙ c.if-bad_timing.false) in
    record { le_gap = g.0; gap_bound = g.1; safe = c.meant.ensures.1 }

pub returns : goal.returns
unfolding lines_answer timing_fault first_of
returns c =
    let b = c.args in
    let e = sym c.bad_timing.ensures ∙ c.if-bad_timing.false in
    record { answers = c.hear.ensures ∙ simp (e, c.meant.ensures.0) }
