-- `lending::lent::carry_back` meets its contract: a turn carries on by one place, and at the end nothing is left to carry.
use Rattle.std.proofs.Common.{◌≡◌, ◌∙◌, ℕ, ◌-◌, sym, ap, arith}
use Rattle.board.specs.Inside.ByValue.{carry}
use Rattle.board.proofs.Carried.{carry-none}
use Rattle.lending.proofs.Runs.{step-back}
use Rattle.lending.proofs.lent.carry_back.Goals as goal

pub loop-i-preserved : goal.loop-i-preserved
loop-i-preserved c =
    let l = c.loop-i in
    step-back l.i (l.i - 1) _ _ l.held l.run (omega arith) c.swap.ensures.x_after c.swap.ensures.y_after ∙ l.invariant

pub returns : goal.returns
returns c =
    let l = c.loop-i in
    let none : 0 ≡ l.i = omega arith in
    sym (carry-none 0 1 0 l.held l.run) ∙ ap (λ (n : ℕ). carry 0 1 n n l.held l.run) none ∙ l.invariant
