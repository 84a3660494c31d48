-- `summary::handed::misshapen` meets its contract. The invariant: every place passed is right, and the next pair is to be above the last.
use mathlib.Core.Path.{◌≡◌}
use mathlib.Core.Bool.{true}
use mathlib.Core.List.{List}
use Prim.Native.Nat.{ℕ, zero, suc, ◌<◌}
use lib.ListN.{get_or}
use Rattle.summary.specs.declared.Line.{Line}
use Rattle.summary.specs.Line.{pair_of, blank_line}
use Rattle.summary.specs.Handed.{place_right}
use Rattle.summary.proofs.handed.misshapen.Given as goal

-- the least number that the pair at a place may be
abbrev pub least_at : List Line → ℕ → ℕ
least_at ls zero = 0
least_at ls (suc i) = suc (pair_of (get_or ls i blank_line))

abbrev pub invariant-loop-i : goal.invariant-loop-i
invariant-loop-i l =
    (l.least ≡ least_at l.fn.s.lines l.i) × ((k : ℕ) → k < l.i → place_right l.fn.s k ≡ true)
