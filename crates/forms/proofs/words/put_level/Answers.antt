-- `forms::words::put_level` meets its contract: each mode has its form. Assumes nothing.
use mathlib.Core.Path.{◌≡◌, ap, ◌∙◌}
use native.Mathlib.Omega.{arith}
use Prim.Native.Nat.{ℕ, ◌%◌}
use borrow.Author.Tests.{eq-eqb, ne_eqb}
use Rattle.putting.proofs.Added.{text-is, at_most}
use Rattle.forms.specs.Words.{in_sixteenths, in_hundredths, in_millimetres, level_text}
use Rattle.forms.proofs.words.put_level.Goals as goal

-- the form of each mode
sixteenths : (settings n : ℕ) → settings % 4 ≡ 0 → in_sixteenths n ≡ level_text settings n
unfolding level_text
sixteenths settings n h = simp (eq-eqb (settings % 4) 0 h)

hundredths : (settings n : ℕ) → (settings % 4 ≡ 0 → ⊥) → settings % 4 ≡ 1 → in_hundredths n ≡ level_text settings n
unfolding level_text
hundredths settings n g h = simp (ne_eqb (settings % 4) 0 g, eq-eqb (settings % 4) 1 h)

millimetres : (settings n : ℕ) → (settings % 4 ≡ 0 → ⊥) → (settings % 4 ≡ 1 → ⊥) → in_millimetres n ≡ level_text settings n
unfolding level_text
millimetres settings n g h = simp (ne_eqb (settings % 4) 0 g, ne_eqb (settings % 4) 1 h)

pub returns-in-0 : goal.returns-in-0
returns-in-0 c =
    let a = c.args in
    at_most (omega arith) (text-is (ap in_sixteenths c.from-n.ensures ∙ sixteenths a.settings a.level c.in-0.is) c.put_form.ensures)

pub returns-in-1 : goal.returns-in-1
returns-in-1 c =
    let a = c.args in
    at_most (omega arith) (text-is (ap in_hundredths c.from-n.ensures ∙ hundredths a.settings a.level (omega arith) c.in-1.is) c.put_form-in-1.ensures)

pub returns-in_default : goal.returns-in_default
returns-in_default c =
    let a = c.args in
    at_most (omega arith) (text-is (ap in_millimetres c.from-n.ensures ∙ millimetres a.settings a.level (omega arith) (omega arith)) c.put_form-in_default.ensures)
