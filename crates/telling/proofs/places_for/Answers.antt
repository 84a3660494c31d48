-- `telling::places_for` meets its contract: after i turns the first i places stand in the row, and zeros behind them. Assumes nothing.
use mathlib.Core.Path.{◌≡◌, sym, ap, ◌∙◌}
use mathlib.Core.List.{List}
use Prim.Native.Nat.{ℕ, ◌+◌, ◌<◌, ◌≤◌}
use native.Mathlib.Numerals.{add-one}
use native.Mathlib.Omega.{arith}
use lib.ListN.{length, set}
use Rattle.sheet.specs.StoresTold.{zeros_behind}
use Rattle.sheet.specs.Inside.Rows.{up_from, places_row}
use Rattle.sheet.proofs.Rows.{one_more, two-more, up-length, up_more}
use Rattle.telling.proofs.places_for.Goals as goal

-- one place more
next_place : (row : List ℕ) (i : ℕ) → i < 19 → row ≡ zeros_behind (up_from 2 i) → set row i (2 + i) ≡ zeros_behind (up_from 2 (i + 1))
next_place row i few is =
    let long : length (up_from 2 i) ≡ i = up-length 2 i in
    (λ j. set (is j) (sym long j) (2 + i)) ∙ one_more (up_from 2 i) (2 + i) (omega arith) ∙ ap zeros_behind (up_more 2 i ∙ ap (up_from 2) (sym (add-one i)))

-- and the two of the length
last-two : (row : List ℕ) (size : ℕ) → size ≤ 17 → row ≡ zeros_behind (up_from 2 size) → set (set row size 1) (size + 1) 0 ≡ zeros_behind (places_row size)
last-two row size few is = two-more row (up_from 2 size) 1 0 size (up-length 2 size) (omega arith) is

pub loop-i-preserved : goal.loop-i-preserved
loop-i-preserved c =
    let l = c.loop-i in
    next_place l.places l.i (omega (arith, c.requires)) l.invariant

pub returns : goal.returns
returns c =
    let l = c.loop-i in
    let all : l.i ≡ c.args.size = omega arith in
    last-two l.places c.args.size c.requires (l.invariant ∙ ap (λ (n : ℕ). zeros_behind (up_from 2 n)) all)
