-- `frame::level_writing::digit_code` meets its contract: what is left of the level after the digits above is the ones digit. Assumes nothing.
use mathlib.Core.Path.{◌≡◌, ◌∙◌}
use Prim.Native.Nat.{ℕ, ◌+◌, ◌-◌, ◌*◌, ◌/◌, ◌%◌}
use native.Mathlib.Nat.{div-add-mod', mod-lt}
use native.Mathlib.Omega.{arith}
use Rattle.frame.specs.Charts.{size_of, code_of}
use Rattle.frame.specs.Inside.Packed.{chart_of}
use Rattle.frame.proofs.Tables.{size_low}
use Rattle.frame.proofs.Upward.{code_lt}
use Rattle.frame.proofs.level_writing.digit_code.Goals as goal

-- a number is its quotient's multiple and its remainder
split : {q n m : ℕ} (v : ℕ) → q ≡ v / m → n ≡ m → q * n + v % m ≡ v
split {m = m} v eq en = rw (eq, en) (div-add-mod' v m)

pub code-requires : goal.code-requires
code-requires c =
    let v = c.args.v in
    let chart = c.args.chart in
    omega (arith, split v c.requires c.size.ensures, mod-lt v {m = size_of (chart_of chart)} (omega (arith, size_low chart)))

pub returns : goal.returns
returns c =
    let a = c.args in
    let v = a.v in
    let chart = a.chart in
    let left : v - a.above * c.size.result ≡ v % size_of (chart_of chart) = omega (arith, split v c.requires c.size.ensures) in
    let is : c.code.result ≡ code_of a.odd (chart_of chart) (v % size_of (chart_of chart)) = c.code.ensures ∙ rw left in
    (is, rw is (code_lt chart a.odd (v % size_of (chart_of chart)) (mod-lt v (omega (arith, size_low chart)))))
