-- `summary::handed::misshapen` meets its contract. The invariant: every place passed is right, and the next pair is to be above the last.
use mathlib.Core.Path.{◌≡◌, refl, sym, ap, ◌∙◌}
use mathlib.Core.Bool.{Bool, true, ◌&&◌}
use Prim.Native.Nat.{ℕ, zero, suc, ◌+◌}
use native.Mathlib.Omega.{arith}
use native.Mathlib.Numerals.{add-one}
use borrow.Author.Count.{below_more}
use borrow.Author.Tests.{le-leb}
use lib.Dec.{ltb}
use Rattle.frame.specs.Pick.{pick}
use Rattle.summary.specs.declared.Summary.{Summary}
use Rattle.summary.specs.Line.{pair_of}
use Rattle.summary.specs.Handed.{line_at, is_blank, levels_right, rises_at, place_right}
use Rattle.summary.specs.Inside.Entering.{right_from}
use Rattle.summary.proofs.Every.{too_many, one-wrong, all_right}
use Rattle.summary.proofs.handed.misshapen.Invariants.{least_at}
use Rattle.summary.proofs.handed.misshapen.Goals.{After-place_right}
use Rattle.summary.proofs.handed.misshapen.Goals as goal

-- what the code asks of a place is what is to be asked of it
right_is : (s : Summary) (i : ℕ) → right_from s.count i (least_at s.lines i) (line_at s i) ≡ place_right s i
unfolding right_from place_right rises_at
right_is s zero =
    ap (λ (b : Bool). pick (ltb 0 s.count) (b && levels_right (line_at s 0)) (is_blank (line_at s 0))) (le-leb 0 (pair_of (line_at s 0)) (omega arith))
right_is s (suc i) = refl

-- what was asked of a place
told : (p : After-place_right) → p.place_right.result ≡ place_right p.args.s.now p.loop-i.i
told p =
    p.place_right.ensures ∙ ap (λ (n : ℕ). right_from p.args.s.now.count p.loop-i.i n (line_at p.args.s.now p.loop-i.i)) p.loop-i.invariant.0
    ∙ right_is p.args.s.now p.loop-i.i

pub returns-then-s-gt30 : goal.returns-then-s-gt30
returns-then-s-gt30 c = sym (too_many _ c.if-s-gt30.true)

pub loop-i-init : goal.loop-i-init
loop-i-init c = (refl, λ k l. absurd (omega arith))

pub returns-then-not-place_right : goal.returns-then-not-place_right
returns-then-not-place_right c =
    sym (one-wrong c.args.s.now c.loop-i.i (omega arith) (sym (told (goal.at.returns-then-not-place_right c).After-place_right) ∙ c.if-not-place_right.true))

pub loop-i-preserved : goal.loop-i-preserved
loop-i-preserved c =
    let s = c.args.s.now in
    let i = c.loop-i.i in (
      ap (λ (n : ℕ). n + 1) (c.from-least.ensures ∙ c.pair_of.ensures) ∙ add-one (pair_of (line_at s i)) ∙ ap (least_at s.lines) (sym (add-one i)),
      below_more (λ (k : ℕ). place_right s k ≡ true) i c.loop-i.invariant.1 (sym (told (goal.at.loop-i-preserved c).After-place_right) ∙ c.if-not-place_right.false),
    )

pub returns : goal.returns
returns c = sym (all_right c.args.s.now (omega arith) (λ i h. c.loop-i.invariant.1 i (omega arith)))
