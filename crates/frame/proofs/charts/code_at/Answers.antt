-- `frame::charts::code_at` meets its contract: the decimal codes by their own function, those of every other chart by the same formula at each
-- of its places. Assumes nothing.
use mathlib.Core.Path.{◌≡◌, ◌∙◌, sym, ap}
use Prim.Native.Nat.{ℕ, ◌<◌}
use native.Mathlib.Omega.{arith}
use lib.ListN.{get_or}
use Rattle.frame.specs.Charts.{Chart, decimal, size_of}
use Rattle.frame.specs.Inside.Packed.{chart_of}
use Rattle.frame.proofs.DecimalCode.{half-throughout}
use Rattle.frame.proofs.charts.code_at.Goals as goal

-- chart 3 is the decimal one, with ten values
is-decimal : (k : ℕ) → k ≡ 3 → chart_of k ≡ decimal
unfolding chart_of
is-decimal k e = rw e

ten : (k at : ℕ) → k ≡ 3 → at < size_of (chart_of k) → at < 10
unfolding decimal
ten k at e h = rw (is-decimal k e) at h

pub decimal_code-requires : goal.decimal_code-requires
decimal_code-requires c = omega (arith, ten c.args.chart c.args.at c.if-chart-eq3.true c.requires)

pub returns-then-chart-eq3 : goal.returns-then-chart-eq3
returns-then-chart-eq3 c =
    c.decimal_code.ensures ∙ sym (ap (λ (k : Chart). get_or k.codes c.args.at 0) (is-decimal c.args.chart c.if-chart-eq3.true))

pub returns : goal.returns
returns c =
    half-throughout c.args.chart c.args.at c.if-chart-eq3.false c.requires
