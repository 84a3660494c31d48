-- `summary::entering::enter` meets its contract: by what the search told, as `LineEntered` has the three cases.
use mathlib.Core.Path.{◌≡◌, sym, ap, ◌∙◌}
use mathlib.Core.Bool.{true, false}
use mathlib.Core.List.{List}
use Prim.Native.Nat.{◌≤◌, ◌<◌}
use native.Mathlib.Omega.{arith}
use lib.Dec.{leb}
use lib.ListN.{set}
use Rattle.std.proofs.Common.{rules, tests}
use Rattle.std.proofs.lemmas.Iterator.{YieldsList-from_slice, IsFirst-from_position}
use Rattle.frame.specs.Pick.{pick}
use Rattle.summary.specs.declared.Line.{Line}
use Rattle.summary.specs.Line.{pair_of, blank_line}
use Rattle.summary.specs.Handed.{lines_of, line_at}
use Rattle.summary.specs.Inside.Entering.{number_told}
use Rattle.summary.proofs.Moved.{moved-set}
use Rattle.summary.proofs.LineEntered.{full-length, many, Placed, placed, over-number, enters-changed, enters-others, enters-new}
use Rattle.summary.proofs.entering.enter.Goals.{After-unwrap_or-at, else-at-count-via-then-at-count+else-pair_of-pair, else-at-count-via-else-at-count}
use Rattle.summary.proofs.entering.enter.Goals as goal

-- where the search tells that the line belongs
place : (c : After-unwrap_or-at) → Placed c.args.summary.now c.requires.small (full-length c.args.summary.now c.requires.small.sound) c.args.line c.unwrap_or-at.result
place c =
    let s = c.args.summary.now in
    placed s c.requires.small (full-length s c.requires.small.sound) c.args.line c.position-place.result
    (IsFirst-from_position _ _ _ (λ y. true ≡ leb (pair_of c.args.line) (pair_of y)) (λ y. false ≡ leb (pair_of c.args.line) (pair_of y)) c.position-place.ensures.ran
    (YieldsList-from_slice (lines_of s) cc) (λ x q k. search (rules, tests)) (λ x q k. search (rules, tests)))
    c.unwrap_or-at.result c.unwrap_or-at.ensures

pub returns-then-pair_of-pair-clause-enters : goal.returns-then-pair_of-pair-clause-enters
returns-then-pair_of-pair-clause-enters c =
    let s = c.args.summary.now in
    let small = c.requires.small in
    enters-changed s small (full-length s small.sound) c.args.line c.requires.one c.unwrap_or-at.result (omega arith) (sym c.pair_of.ensures ∙ c.if-pair_of-pair.true ∙ c.pair_of-pair.ensures)
    c.together-changed.result c.together-changed.ensures _ (ap number_told c.refuse_over.ensures ∙ over-number s small (full-length s small.sound) c.args.line _ ∙ ap (λ b. pick b 24 0) c.counts_over.ensures)

pub returns-then-count-eq30-clause-enters : goal.returns-then-count-eq30-clause-enters
returns-then-count-eq30-clause-enters c =
    let s = c.args.summary.now in
    let x = c.args.line in
    let small = c.requires.small in
    let other : c.unwrap_or-at.result < s.count → pair_of (line_at s c.unwrap_or-at.result) ≡ pair_of x → ⊥ =
    elim c.else-at-count.branch [
      | else-at-count-via-then-at-count+else-pair_of-pair w ↦ λ l q. w.if-pair_of-pair.false (w.pair_of.ensures ∙ q ∙ sym c.pair_of-pair.ensures)
      | else-at-count-via-else-at-count w ↦ λ l q. absurd (omega (arith, w.if-at-count.false))
    ] in
    enters-others s small (full-length s small.sound) x c.unwrap_or-at.result (place (goal.at.returns-then-count-eq30-clause-enters c).After-unwrap_or-at) other c.requires.one (omega arith) _
    (ap number_told c.refuse_over-then-count-eq30.ensures ∙ over-number s small (full-length s small.sound) x _)

pub returns-clause-enters : goal.returns-clause-enters
returns-clause-enters c =
    let s = c.args.summary.now in
    let x = c.args.line in
    let small = c.requires.small in
    let long = full-length s small.sound in
    let at = c.unwrap_or-at.result in
    let other : at < s.count → pair_of (line_at s at) ≡ pair_of x → ⊥ =
    elim c.else-at-count.branch [
      | else-at-count-via-then-at-count+else-pair_of-pair w ↦ λ l q. w.if-pair_of-pair.false (w.pair_of.ensures ∙ q ∙ sym c.pair_of-pair.ensures)
      | else-at-count-via-else-at-count w ↦ λ l q. absurd (omega (arith, w.if-at-count.false))
    ] in
    let there = place (goal.at.returns-clause-enters c).After-unwrap_or-at in
    let free : s.count < 30 = omega (arith, small.sound.few, c.if-count-eq30.false) in
    let low : at ≤ s.count = omega (arith, there.few, many s small long x) in
    enters-new s small long x at there other c.requires.one free _ (ap (λ (ls : List Line). set ls at x) c.copy_within.ensures.after ∙ moved-set blank_line s.lines at s.count x low (omega (arith, long)))
