-- `layers::noting::note_slots` meets its contract: after k turns the row has noted what can be the pair's of the first k slots. Assumes nothing.
use mathlib.Core.Path.{◌≡◌, refl, sym, ap, ◌∙◌}
use mathlib.Core.Bool.{Bool}
use Prim.Native.Nat.{ℕ, ◌+◌, ◌<◌, ◌≤◌}
use native.Mathlib.Omega.{arith}
use borrow.Author.Tests.{eq-eqb, ne_eqb}
use lib.Dec.{eqb}
use lib.ListN.{length, length-set}
use Rattle.frame.specs.Pick.{pick}
use Rattle.sheet.specs.Record.{fields_of}
use Rattle.sheet.specs.Slots.{slots, slot_at}
use Rattle.summary.specs.Worked.{pair_in}
use Rattle.sheet.proofs.Seen.{few-slots}
use Rattle.layers.proofs.MoreNoted.{NotedTo, noted-none, noted-next, noted-all}
use Rattle.layers.proofs.noting.note_slots.Goals.{then-pair_at-pair, else-pair_at-pair}
use Rattle.layers.proofs.noting.note_slots.Goals as goal

pub loop-k-init : goal.loop-k-init
loop-k-init c = (refl, noted-none c.args.sheet.now c.args.pair _)

pub overflow_cast-slots : goal.overflow_cast-slots
overflow_cast-slots c =
    omega (arith, c.requires.many_value, few-slots c.args.sheet.now c.requires.sheet_value)

pub offset_bounds-slots-count : goal.offset_bounds-slots-count
offset_bounds-slots-count c =
    omega (arith, c.requires.many_value, few-slots c.args.sheet.now c.requires.sheet_value, c.loop-k.invariant.1.few)

pub bounds-slots-count : goal.bounds-slots-count
bounds-slots-count c =
    omega (arith, c.requires.many_value, few-slots c.args.sheet.now c.requires.sheet_value, c.loop-k.invariant.1.few)

pub pair_at-requires : goal.pair_at-requires
pair_at-requires c =
    let few = few-slots c.args.sheet.now c.requires.sheet_value in
    record { slot_bound = omega (arith, c.requires.many_value, few); slot_bound_2 = omega (arith, c.requires.many_value) }

pub loop-k-preserved : goal.loop-k-preserved
loop-k-preserved c =
    let s = c.args.sheet.now in
    let l = c.loop-k in
    let few = few-slots s c.requires.sheet_value in
    let near : l.k < slots s = omega (arith, c.requires.many_value) in
    let room : l.count < length l.slots = omega (arith, c.requires.many_value, few, l.invariant.0, l.invariant.1.few) in
    let next : c.if-pair_at-pair.count ≡ pick (eqb (pair_in (fields_of (slot_at s l.k))) c.args.pair) (l.count + 1) l.count =
    elim c.if-pair_at-pair.branch [
      | then-pair_at-pair w ↦ (w.count-is ∙ ap (λ (b : Bool). pick b (l.count + 1) l.count) (sym (eq-eqb _ _ (sym c.pair_at.ensures ∙ w.if-pair_at-pair.true))))
      | else-pair_at-pair w ↦ (w.count-is ∙ ap (λ (b : Bool). pick b (l.count + 1) l.count) (sym (ne_eqb _ _ (λ e. w.if-pair_at-pair.false (c.pair_at.ensures ∙ e)))))
    ] in
    (length-set l.slots l.count l.k ∙ l.invariant.0, noted-next s c.args.pair l.slots l.count l.k c.if-pair_at-pair.count l.invariant.1 near room next)

pub returns : goal.returns
returns c =
    let s = c.args.sheet.now in
    let l = c.loop-k in
    let all : l.k ≡ slots s = omega (arith, c.requires.many_value) in
    let few : l.count ≤ length l.slots = omega (arith, all, few-slots s c.requires.sheet_value, l.invariant.0, l.invariant.1.few) in
    let noted = rw (ap (λ (k : ℕ). NotedTo s c.args.pair l.slots l.count k) all) at l.invariant.1 in
    record { count_in_bounds = few; noted = noted-all s c.args.pair l.slots l.count few noted }
