-- `sheet::next::next_slot` meets its contract: what is passed over leaves the slot sought the same, and where a search slot by slot stops it is the slot after
-- the last that is left, since that one is used or there is none. Assumes nothing.
use mathlib.Core.Path.{◌≡◌, sym, ap, ◌∙◌}
use mathlib.Core.Bool.{Bool}
use mathlib.Core.List.{List}
use Prim.Native.Nat.{ℕ, zero, suc, ◌-◌, ◌<◌}
use native.Mathlib.Omega.{arith}
use Rattle.frame.specs.Pick.{pick}
use Rattle.sheet.specs.Slots.{next_up_to}
use Rattle.sheet.specs.Inside.Passing.{StopsAt}
use Rattle.sheet.proofs.next.next_slot.Goals as goal

-- the last slot left is used
last_used : (s : List ℕ) (from low left : ℕ) → StopsAt s 1 from low left → low < left → next_up_to s left ≡ left
unfolding next_up_to
last_used s from low zero h more = absurd (omega arith)
last_used s from low (suc k) h more =
    let before : suc k - 1 ≡ k = omega arith in
    ap (λ (b : Bool). pick b (next_up_to s k) (suc k)) (rw before at (h.used (omega arith)))

-- a search that need leave no slot
ends : (s : List ℕ) (from left : ℕ) → StopsAt s 1 from 0 left → next_up_to s from ≡ left
unfolding next_up_to
ends s from zero h = h.same
ends s from (suc left) h = h.same ∙ last_used s from 0 (suc left) h (omega arith)

pub returns-then-low-near : goal.returns-then-low-near
returns-then-low-near c =
    let near = c.pass-near.ensures in
    sym (near.same ∙ last_used _ _ _ _ near c.if-low-near.true)

pub returns : goal.returns
returns c =
    sym (c.pass-near.ensures.same ∙ c.pass-far.ensures.same ∙ ends c.args.sheet.now c.pass-far.result c.pass.result c.pass.ensures)
