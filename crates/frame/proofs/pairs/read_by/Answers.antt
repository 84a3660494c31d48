-- `frame::pairs::read_by` meets its contract: the fill by its test, the rest by the reader of pairs, whose levels of at most three pairs are below
-- 2 ^ 32. Assumes nothing.
use mathlib.Core.Path.{◌≡◌, sym, ap, ◌∙◌}
use mathlib.Core.Bool.{true}
use Prim.Native.Nat.{ℕ, ◌+◌, ◌*◌, ◌/◌, ◌%◌, ◌^◌, ◌≤◌}
use native.Mathlib.Omega.{arith}
use Rattle.frame.specs.Level.{Level}
use Rattle.frame.specs.Pairs.{read_pairs}
use Rattle.frame.specs.Inside.Packed.{read_code, Below}
use Rattle.frame.specs.Inside.Constants.{fill_at, digit_bits}
use Rattle.frame.proofs.Cut.{clear-cut}
use Rattle.frame.proofs.Digits.{below_more}
use Rattle.frame.proofs.PairSteps.{hundred-le, pairs_below}
use Rattle.frame.proofs.pairs.read_by.Goals as goal

-- what so few pairs leave room for is below 2 ^ 32
under : (k : ℕ) (l : Level) → k ≤ 4 → Below ((0 + 1) * 100 ^ k) l → Below (2 ^ 32) l
under k l h = below_more ((0 + 1) * 100 ^ k) (2 ^ 32) (omega (arith, hundred-le k h)) l

pub read_pairs-v-requires-clause-left_bound : goal.read_pairs-v-requires-clause-left_bound
read_pairs-v-requires-clause-left_bound c =
    let few : (c.args.k.digits + 1) / 2 ≤ 4 = omega (arith, c.args.k.few_digits) in
    omega (arith, hundred-le ((c.args.k.digits + 1) / 2) few)

pub returns : goal.returns
returns c =
    let n = c.args.n in
    let k = c.args.k in
    let left = (k.digits + 1) / 2 in
    let clear : fill_at n k.first k.after ≡ true = sym c.fill_clear.ensures ∙ c.if-not-fill_clear.false in
    let bits = n / 2 ^ (27 + k.after) % 2 ^ digit_bits k.first k.after in
    let l = read_pairs left bits k.start 0 0 in
    let cut : c.digit_bits.result ≡ bits = c.digit_bits.ensures ∙ clear-cut n k clear in
    let read : c.read_pairs-v.result ≡ read_code l =
    c.read_pairs-v.ensures ∙ ap (λ (m : ℕ). read_code (read_pairs left m k.start 0 0)) cut in
    let few : left ≤ 4 = omega (arith, k.few_digits) in
    rw clear (c.judged.ensures l (under left l few (pairs_below left bits k.start 0 0)) read)
