-- `cards::counting::count` meets its contract: after k turns the first k slots are counted, and each of them once at most. Assumes nothing.
use mathlib.Core.Path.{◌≡◌, sym, ap, ◌∙◌}
use mathlib.Core.List.{List}
use Prim.Native.Nat.{ℕ, ◌+◌, ◌<◌, ◌^◌}
use native.Mathlib.Numerals.{add-one}
use native.Mathlib.Omega.{arith}
use Rattle.sheet.specs.declared.Looked.{Looked}
use Rattle.sheet.specs.Slots.{slots}
use Rattle.sheet.specs.Look.{look_of}
use Rattle.cards.specs.declared.counting.Tally.{Tally}
use Rattle.cards.specs.Tally.{with_slot, tally_up_to}
use Rattle.cards.proofs.FewCounted.{few-counted}
use Rattle.cards.proofs.counting.count.Goals as goal

-- one slot more
tally-more : (s : List ℕ) (k : ℕ) → tally_up_to s (k + 1) ≡ with_slot (look_of s k).found (tally_up_to s k)
tally-more s k = unfold tally_up_to in ap (tally_up_to s) (add-one k)

-- what was counted, no more than the slots passed
few : (s : List ℕ) (k : ℕ) (t : Tally) → t ≡ tally_up_to s k → k + 1 < 2 ^ 64 → (t.records + 1 < 2 ^ 64) × ((t.spoiled + 1 < 2 ^ 64) × (t.foreign + 1 < 2 ^ 64))
few s k t e small = let f = few-counted s k in rw e (omega arith, (omega arith, omega arith))

pub loop-k-init : goal.loop-k-init
unfolding tally_up_to
loop-k-init c = c.nothing-t.ensures

pub with_slot-t-requires : goal.with_slot-t-requires
with_slot-t-requires c =
    let l = c.loop-k in
    let all = few c.args.sheet.now l.k l.t l.invariant (omega arith) in record { records_bound = all.0; spoiled_bound = all.1.0; foreign_bound = all.1.1 }

pub loop-k-preserved : goal.loop-k-preserved
loop-k-preserved c =
    let l = c.loop-k in
    let s = c.args.sheet.now in
    c.with_slot-t.ensures
    ∙ ap (λ (x : Looked). with_slot x.found l.t) c.look.ensures.answers
    ∙ ap (λ (t : Tally). with_slot (look_of s l.k).found t) l.invariant
    ∙ sym (tally-more s l.k)

pub returns : goal.returns
returns c =
    let l = c.loop-k in
    let s = c.args.sheet.now in
    let all : l.k ≡ slots s = omega arith in
    l.invariant ∙ ap (tally_up_to s) all
