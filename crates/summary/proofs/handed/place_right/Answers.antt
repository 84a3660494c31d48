-- `summary::handed::place_right` meets its contract: by whether the place is used, then by the two tests of a used line.
use mathlib.Core.Path.{◌≡◌, sym, ap, ◌∙◌}
use mathlib.Core.Bool.{Bool, true, false, ◌&&◌}
use Prim.Native.Nat.{ℕ, ◌<◌, ◌≤◌}
use native.Mathlib.Omega.{arith}
use borrow.Author.Tests.{lt-ltb, le-ltb, le-leb}
use lib.Dec.{leb}
use Rattle.std.proofs.Common.{rules}
use Rattle.frame.specs.Pick.{pick}
use Rattle.summary.specs.declared.Line.{Line}
use Rattle.summary.specs.Line.{pair_of}
use Rattle.summary.specs.Handed.{is_blank, levels_right}
use Rattle.summary.specs.Inside.Entering.{right_from}
use Rattle.summary.proofs.handed.place_right.Goals as goal

module _ (count i least : ℕ) (l : Line) where
  unused : count ≤ i → right_from count i least l ≡ is_blank l
  unfolding right_from
  unused h = ap (λ (b : Bool). pick b (leb least (pair_of l) && levels_right l) (is_blank l)) (le-ltb i count h)

  used : i < count → (b : Bool) → leb least (pair_of l) ≡ b → right_from count i least l ≡ (b && levels_right l)
  unfolding right_from
  used h b e =
      ap (λ (t : Bool). pick t (leb least (pair_of l) && levels_right l) (is_blank l)) (lt-ltb i count h) ∙ ap (λ (t : Bool). t && levels_right l) e

pub returns-then-least-from : goal.returns-then-least-from
returns-then-least-from c =
    let a = c.args in
    c.levels_right.ensures
    ∙ sym (used a.count a.i a.least a.line (omega arith) true (le-leb a.least (pair_of a.line) (omega (arith, c.pair_of.ensures, c.from.ensures))))

pub returns-else-least-from : goal.returns-else-least-from
returns-else-least-from c =
    let a = c.args in
    let over : leb a.least c.from.result ≡ false = search rules in
    over ∙ sym (used a.count a.i a.least a.line (omega arith) false (ap (leb a.least) (sym (c.from.ensures ∙ c.pair_of.ensures)) ∙ over))

pub returns-else-i-count : goal.returns-else-i-count
returns-else-i-count c =
    let a = c.args in
    c.is_blank.ensures ∙ sym (unused a.count a.i a.least a.line (omega arith))
