-- `enraf::check::block_check` meets its contract: the sum without carry is a fold. Assumes nothing.
use mathlib.Core.Path.{◌≡◌, ap, ◌∙◌}
use Prim.Native.Nat.{ℕ, ◌%◌}
use lib.Bits.{bit_xor}
use borrow.Author.Rules.{rules}
use Rattle.std.specs.List.{fold}
use Rattle.enraf.specs.Check.{block_check}
use Rattle.enraf.proofs.Sums.{sum-folds}
use Rattle.enraf.proofs.check.block_check.Goals as goal

pub returns : goal.returns
unfolding block_check
returns c =
    let folded : c.fold.result ≡ fold bit_xor 0 c.args.part.now = search rules in
    ap (λ (n : ℕ). n % 128) (folded ∙ sum-folds 0 c.args.part.now)
