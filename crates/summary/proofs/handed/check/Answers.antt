-- `summary::handed::check` meets its contract: each return is one case of the two tests.
use mathlib.Core.Path.{◌≡◌, refl, sym, ap, ◌∙◌}
use mathlib.Core.Bool.{Bool, true, false, ◌||◌}
use borrow.Author.Tests.{lt-ltb, le-ltb}
use Rattle.frame.specs.Pick.{pick}
use Rattle.summary.specs.declared.Summary.{Summary}
use Rattle.summary.specs.Handed.{misshapen, over, lines_over, handed_fault, most}
use Prim.Native.Nat.{ℕ, ◌<◌, ◌≤◌}
use Rattle.frame.specs.Faults.{verdict}
use Rattle.summary.proofs.handed.check.Goals.{then-s-gt-MOST, else-s-gt-MOST}
use Rattle.summary.proofs.handed.check.Goals as goal

by_tests : (s : Summary) (m o : Bool) → misshapen s ≡ m → over s ≡ o → handed_fault s ≡ pick m 37 (pick o 24 0)
unfolding handed_fault
by_tests s m o e f = simp (e, f)

module _ (s : Summary) where
  others-over : most < s.others → over s ≡ true
  unfolding over
  others-over h = ap (λ (b : Bool). b || lines_over s) (lt-ltb most s.others h)

  by_lines : s.others ≤ most → (b : Bool) → lines_over s ≡ b → over s ≡ b
  unfolding over
  by_lines h b e = ap (λ (t : Bool). t || lines_over s) (le-ltb most s.others h) ∙ e

pub returns-then-misshapen : goal.returns-then-misshapen
returns-then-misshapen c =
    let s = c.args.s.now in
    sym (ap (λ (n : ℕ). verdict n tt) (by_tests s true (over s) (sym c.misshapen.ensures ∙ c.if-misshapen.true) refl))

pub returns : goal.returns
returns c =
    let s = c.args.s.now in
    let told : over s ≡ c.if-s-gt-MOST.refuse_over = elim c.if-s-gt-MOST.branch [
      | then-s-gt-MOST w ↦ others-over s w.if-s-gt-MOST.true ∙ sym (lt-ltb most s.others w.if-s-gt-MOST.true) ∙ sym w.refuse_over-is
      | else-s-gt-MOST w ↦ by_lines s w.if-s-gt-MOST.false _ (sym w.lines_over.ensures) ∙ sym w.refuse_over-is
    ] in
    c.refuse_over.ensures ∙ sym (ap (λ (n : ℕ). verdict n tt) (by_tests s false _ (sym c.misshapen.ensures ∙ c.if-misshapen.false) told))
