-- `enraf::reading::is_checked` meets its contract: the bytes between the first and the last are those that are checked. Assumes nothing.
use mathlib.Core.Path.{◌≡◌, ap, ◌∙◌}
use Prim.Native.Nat.{ℕ, ◌-◌}
use native.Mathlib.Omega.{arith}
use lib.Dec.{eqb}
use lib.ListN.{length, get_or, take, drop}
use Rattle.enraf.specs.Check.{block_check}
use Rattle.enraf.specs.Reading.{check_right}
use Rattle.enraf.proofs.reading.is_checked.Goals as goal

pub returns : goal.returns
unfolding check_right
returns c =
    let s = c.args.bytes.now in
    let inner : length s - 1 - 1 ≡ length s - 2 = omega arith in
    ap (eqb (get_or s (length s - 1) 0)) (c.block_check.ensures ∙ ap (λ (n : ℕ). block_check (take n (drop 1 s))) inner)
