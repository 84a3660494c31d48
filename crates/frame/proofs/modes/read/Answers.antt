-- `frame::modes::read` meets its contract: the fill by its test, the rest by the digit reader, whose levels of at most five digits are below
-- 2 ^ 32; and constants that fit a mode read it. Assumes nothing.
use Rattle.std.proofs.Common.{◌≡◌, sym, ap, ◌∙◌, true, false, ℕ, ◌+◌, ◌*◌, ◌/◌, ◌%◌, ◌^◌, ◌≤◌, arith}
use Rattle.frame.specs.declared.constants.Constants.{Constants}
use Rattle.frame.specs.Level.{Level, read_row}
use Rattle.frame.specs.Inside.Packed.{digit_row, read_code, Below, level_number}
use Rattle.frame.specs.Inside.Constants.{fill_at, cut_at, read_by}
use Rattle.frame.proofs.Cut.{clear-cut}
use Rattle.frame.proofs.Digits.{below_more, row_below}
use Rattle.frame.proofs.Fitting.{read_is}
use Rattle.frame.proofs.Upward.{sixteen-le}
use Rattle.frame.proofs.modes.read.Goals as goal

-- what four bits a digit leave room for is below 2 ^ 32
under : (k : ℕ) (l : Level) → k ≤ 8 → Below ((0 + 1) * 16 ^ k) l → Below (2 ^ 32) l
under k l h = below_more ((0 + 1) * 16 ^ k) (2 ^ 32) (omega (arith, sixteen-le k h)) l

-- nothing is read where a fill bit is set
set-fill : (k : Constants) (n : ℕ) → fill_at n k.first k.after ≡ false → 6 * 2 ^ 16 ≡ read_by k n
set-fill k n set = rw set

-- else the digits that stand there
clear-fill : (k : Constants) (n bits v read : ℕ) → fill_at n k.first k.after ≡ true → bits ≡ n % 2 ^ 49 / 2 ^ (27 + k.after)
    → v ≡ read_code (read_row (digit_row k.charts k.digits) bits k.start 0 0)
    → ((l : Level) → Below (2 ^ 32) l → v ≡ read_code l → read ≡ level_number k.largest l) → read ≡ read_by k n
clear-fill k n bits v read clear is digits judged =
    let l = read_row (digit_row k.charts k.digits) (cut_at k.first k.after n) k.start 0 0 in
    let cut : bits ≡ cut_at k.first k.after n = is ∙ clear-cut n k clear in
    let same : v ≡ read_code l = digits ∙ ap (λ (m : ℕ). read_code (read_row (digit_row k.charts k.digits) m k.start 0 0)) cut in
    rw clear (judged l (under k.digits l (omega (arith, k.few_digits)) (row_below k.charts k.digits (cut_at k.first k.after n) k.start 0 0)) same)

pub returns-then-not-fill_clear : goal.returns-then-not-fill_clear
returns-then-not-fill_clear g c =
    let k = c.CONSTANTS-k.result in
    let n = c.args.n in
    set-fill k n (sym c.fill_clear.ensures ∙ c.if-not-fill_clear.true) ∙ ap (λ (h : Constants). read_by h n) c.CONSTANTS-k.ensures
    ∙ read_is g.M.Mode.paper g.M.Mode.CONSTANTS g.met.M.Mode.fits n

pub read_digits-v-requires-clause-left_bound : goal.read_digits-v-requires-clause-left_bound
read_digits-v-requires-clause-left_bound g c = let k = c.CONSTANTS-k.result in omega (arith, sixteen-le k.digits (omega (arith, k.few_digits)))

pub returns : goal.returns
returns g c =
    let k = c.CONSTANTS-k.result in
    let n = c.args.n in
    clear-fill k n c.digit_bits.result c.read_digits-v.result c.judged.result (sym c.fill_clear.ensures ∙ c.if-not-fill_clear.false) c.digit_bits.ensures c.read_digits-v.ensures c.judged.ensures
    ∙ ap (λ (h : Constants). read_by h n) c.CONSTANTS-k.ensures
    ∙ read_is g.M.Mode.paper g.M.Mode.CONSTANTS g.met.M.Mode.fits n
