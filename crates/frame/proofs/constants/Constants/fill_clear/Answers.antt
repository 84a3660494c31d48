-- `frame::constants::Constants::fill_clear` meets its contract: a one shifted is the power of two that the definition has, bit 16 counts where the
-- first bit stands after it, and a sum is 0 exactly if both parts are. Assumes nothing.
use Rattle.std.proofs.Common.{ap, ◌∙◌, ◌&&◌, ℕ, ◌-◌, ◌*◌, ◌/◌, ◌%◌, ◌^◌, ◌<◌, eqb, arith}
use Rattle.frame.proofs.Shifts.{one_shl}
use Rattle.frame.proofs.Cut.{both-clear, head-is}
use Rattle.frame.proofs.constants.Constants.fill_clear.Goals as goal

pub returns : goal.returns
returns c =
    let n = c.args.n in
    let k = c.args.self in
    let small : k.after < 64 = omega (arith, k.few_after) in
    rw (one_shl 64 k.after small)
    (both-clear (n / 2 ^ 48 % 2 * (k.first - 16)) (n / 2 ^ 27 % 2 ^ k.after)
    ∙ ap (λ (h : ℕ). eqb h 0 && eqb (n / 2 ^ 27 % 2 ^ k.after) 0) (head-is n k.first k.from_16 k.by_17))
