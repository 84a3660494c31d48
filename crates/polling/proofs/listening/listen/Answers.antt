-- `polling::listening::listen` meets its contract: at each turn the try is what its rest is from the lines as they are, i samples later; a turn hears one piece of
-- the samples, cut at the limit (`Pieces`).
use mathlib.Core.Path.{◌≡◌, sym, ap, ap₂, ◌∙◌}
use mathlib.Core.Bool.{Bool, true, false, not, ◌||◌}
use Prim.Native.Nat.{ℕ, ◌+◌, ◌-◌, ◌<◌, ◌≤◌}
use native.Mathlib.Omega.{arith}
use lib.Dec.{eqb}
use lib.ListN.{length, take, drop}
use borrow.Author.Tests.{eq-eqb, ne_eqb}
use Rattle.lines.specs.declared.LinesTold.{LinesTold}
use Rattle.lines.specs.Hearing.{hear}
use Rattle.lines.specs.Calls.{answered}
use Rattle.polling.specs.Pace.{timing_of}
use Rattle.polling.specs.Inside.Ears.{limit_of, next_limit, cut_to, ear_of}
use Rattle.polling.proofs.Paces.{good}
use Rattle.polling.proofs.OneTurn.{first, at-end, next-limit, cut_by, cut-so, limit-most, Turn, turn}
use Rattle.polling.specs.declared.listening.Told.{Told}
use Rattle.polling.specs.declared.listening.Ear.TheVariants.{Closed}
use borrow.Author.Rules.{rules}
use Rattle.polling.proofs.listening.listen.Goals.{After-cut, then-told-ne0-via-then-told-ne0, then-told-ne0-via-else-told-ne0+then-told-ne0-2}
use Rattle.polling.proofs.listening.listen.Goals as goal

-- where a turn's piece is cut, and what it comes to
within : (c : After-cut) → c.loop-i.i < length c.args.samples.now
within c = omega arith

cut_at : (c : After-cut) → c.cut.result
    ≡ cut_to (length c.args.samples.now - c.loop-i.i)
    (next_limit c.args.p c.loop-i.s (c.args.before + c.loop-i.i))
    (c.args.before + c.loop-i.i)
cut_at c =
    let a = c.args in
    let l = c.loop-i in
    cut_by a.p l.s c.cut.result (length a.samples.now - l.i) c.next_limit-limit.result (a.before + l.i) c.cut.ensures c.next_limit-limit.ensures

cuts : (c : After-cut) → (1 ≤ c.cut.result) × (c.cut.result ≤ length c.args.samples.now - c.loop-i.i)
cuts c =
    let l = c.loop-i in
    let k = cut-so c.args.p (good c.args.p c.requires.p_value) l.s c.args.before l.i c.cut.result c.args.samples.now (within c) (cut_at c) in
    (k.0, k.1)

its-turn : (c : After-cut) (told : LinesTold)
    → told
    ≡ answered (hear (timing_of c.args.p) c.loop-i.s
    (take (c.loop-i.i + c.cut.result - c.loop-i.i) (drop c.loop-i.i c.args.samples.now)))
    → Turn c.args.p c.loop-i.s c.args.before c.loop-i.i
    c.args.samples.now told
its-turn c told e =
    let l = c.loop-i in
    turn c.args.p (good c.args.p c.requires.p_value) l.s l.invariant.1 c.args.before l.i c.cut.result c.args.samples.now (within c) (cut_at c) told e

-- whether the lines told of something
some-count : (count number : ℕ) → (count ≡ 0 → ⊥) → (not (eqb count 0) || not (eqb number 0)) ≡ true
some-count count number some = ap (λ (b : Bool). not b || not (eqb number 0)) (ne_eqb count 0 some)

some-number : (count number : ℕ) → count ≡ 0 → (number ≡ 0 → ⊥) → (not (eqb count 0) || not (eqb number 0)) ≡ true
some-number count number none some = ap₂ (λ (a b : Bool). not a || not b) (eq-eqb count 0 none) (ne_eqb number 0 some)

nothing-told : (count number : ℕ) → count ≡ 0 → number ≡ 0 → (not (eqb count 0) || not (eqb number 0)) ≡ false
nothing-told count number none good = ap₂ (λ (a b : Bool). not a || not b) (eq-eqb count 0 none) (eq-eqb number 0 good)

pub loop-i-init : goal.loop-i-init
loop-i-init c =
    let a = c.args in
    (omega arith, c.requires.ready, first a.p a.begun a.before a.samples.now, omega (arith, c.requires.before_bound))

pub overflow_add-before : goal.overflow_add-before
overflow_add-before c = omega (arith, c.loop-i.invariant.3)

pub overflow_sub-samples : goal.overflow_sub-samples
overflow_sub-samples c = omega (arith, c.loop-i.invariant.0)

pub overflow_add-before-in-loop-i : goal.overflow_add-before-in-loop-i
overflow_add-before-in-loop-i c = omega (arith, c.loop-i.invariant.3)

pub overflow_add-end : goal.overflow_add-end
overflow_add-end c =
    let l = c.loop-i in
    let k = cuts c in
    omega (arith, k.1)

pub slice_bounds-hear-count : goal.slice_bounds-hear-count
slice_bounds-hear-count c = omega arith

pub slice_bounds-hear-start : goal.slice_bounds-hear-start
slice_bounds-hear-start c = omega arith

pub slice_bounds-hear-end : goal.slice_bounds-hear-end
slice_bounds-hear-end c =
    let l = c.loop-i in
    let k = cuts (goal.at.slice_bounds-hear-end c).After-cut in
    let few = k.1 in
    omega (arith, few)

pub hear-told-requires : goal.hear-told-requires
hear-told-requires c =
    let g = good c.args.p c.requires.p_value in
    record { le_gap = g.some_gap; gap_bound = g.gap; safe = c.loop-i.invariant.1.safe }

pub overflow_add-i : goal.overflow_add-i
overflow_add-i c =
    let l = c.loop-i in
    let h = c.hear-told in
    let u = its-turn (goal.at.overflow_add-i c).After-cut h.result h.ensures in
    omega (arith, u.few)

pub overflow_add-before-in-loop-i-2 : goal.overflow_add-before-in-loop-i-2
overflow_add-before-in-loop-i-2 c =
    let l = c.loop-i in
    let h = c.hear-told in
    let u = its-turn (goal.at.overflow_add-before-in-loop-i-2 c).After-cut h.result h.ensures in
    omega (arith, u.small, l.invariant.3)

pub overflow_add-before-in-loop-i-3 : goal.overflow_add-before-in-loop-i-3
overflow_add-before-in-loop-i-3 c =
    let l = c.loop-i in
    let h = c.hear-told in
    let u = its-turn (goal.at.overflow_add-before-in-loop-i-3 c).After-cut h.result h.ensures in
    omega (arith, u.small, l.invariant.3)

pub loop-i-smaller : goal.loop-i-smaller
loop-i-smaller c =
    let l = c.loop-i in
    let h = c.hear-told in
    let u = its-turn (goal.at.loop-i-smaller c).After-cut h.result h.ensures in
    omega (arith, u.few, u.some (nothing-told _ _ c.if-told-ne0.false c.if-told-ne0-2.false))

pub loop-i-preserved : goal.loop-i-preserved
loop-i-preserved c =
    let l = c.loop-i in
    let h = c.hear-told in
    let g = good c.args.p c.requires.p_value in
    let none = nothing-told _ _ c.if-told-ne0.false c.if-told-ne0-2.false in
    let u = its-turn (goal.at.loop-i-preserved c).After-cut h.result h.ensures in
    let next = c.next_limit in
    let near = (next-limit c.args.p g h.result.so_far (c.args.before + (l.i + h.result.taken)) next.result next.ensures).0 in
    let short : c.args.before + (l.i + h.result.taken) < limit_of c.args.p h.result.so_far = omega (arith, near, c.if-next_limit-before.false) in
    (omega (arith, u.few), u.ready none, l.invariant.2 ∙ u.goes none short, omega (arith, short, limit-most c.args.p g h.result.so_far))

pub returns-then-told-ne0 : goal.returns-then-told-ne0
returns-then-told-ne0 c =
    let l = c.loop-i in
    let h = c.hear-told in
    let u = its-turn (goal.at.returns-then-told-ne0 c).After-cut h.result h.ensures in
    let some : (not (eqb h.result.count 0) || not (eqb h.result.number 0)) ≡ true = elim c.then-told-ne0.branch [
      | then-told-ne0-via-then-told-ne0 w ↦ some-count _ _ w.if-told-ne0.true
      | then-told-ne0-via-else-told-ne0+then-told-ne0-2 w ↦ some-number _ _ w.if-told-ne0.false w.if-told-ne0-2.true
    ] in
    record {
      value = ap (λ (t : Told). Closed t (l.i + h.result.taken)) c.of.ensures ∙ u.closes some ∙ ap ear_of (sym l.invariant.2);
      room = search rules;
    }

pub returns-then-next_limit-before : goal.returns-then-next_limit-before
returns-then-next_limit-before c =
    let l = c.loop-i in
    let h = c.hear-told in
    let u = its-turn (goal.at.returns-then-next_limit-before c).After-cut h.result h.ensures in
    let none = nothing-told _ _ c.if-told-ne0.false c.if-told-ne0-2.false in
    let next = c.next_limit in
    let reached = (next-limit c.args.p (good c.args.p c.requires.p_value) h.result.so_far (c.args.before + (l.i + h.result.taken)) next.result next.ensures).1 c.if-next_limit-before.true in
    record {
      value = ap (λ (t : Told). Closed t (l.i + h.result.taken)) c.at_limit.ensures ∙ ap ear_of (sym (l.invariant.2 ∙ u.ends none reached));
      room = search rules;
    }

pub returns : goal.returns
returns c =
    let l = c.loop-i in
    let end = at-end c.args.p l.s (c.args.before + l.i) l.i c.args.samples.now (omega arith) in
    record { value = ap ear_of (sym (l.invariant.2 ∙ end)); room = l.invariant.3 }
