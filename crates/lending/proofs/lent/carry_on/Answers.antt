-- `lending::lent::carry_on` meets its contract: a turn carries on by one place, and at the end nothing is left to carry.
use Rattle.std.proofs.Common.{◌≡◌, ◌∙◌, ℕ, ◌-◌, sym, ap, arith, length}
use lib.ListN.{length-set}
use Rattle.board.specs.Inside.ByValue.{carry}
use Rattle.board.proofs.Carried.{carry-none}
use Rattle.lending.proofs.Runs.{step-on}
use Rattle.lending.proofs.lent.carry_on.Goals as goal

pub loop-place-preserved : goal.loop-place-preserved
loop-place-preserved c =
    let l = c.loop-place in
    step-on (length l.run - l.place-index) _ l.place-index _ _ l.held l.run (omega (arith, length-set l.run l.place-index c.swap.new.x)) c.swap.ensures.x_after c.swap.ensures.y_after ∙ l.invariant

pub returns : goal.returns
returns c =
    let l = c.loop-place in
    let none : 0 ≡ length l.run - l.place-index = omega arith in
    sym (carry-none 1 0 l.place-index l.held l.run) ∙ ap (λ (n : ℕ). carry 1 0 n l.place-index l.held l.run) none ∙ l.invariant
