-- `forms::words::put_degrees` meets its contract: each side of zero has its form. Assumes nothing.
use mathlib.Core.Path.{◌≡◌, ap, ◌∙◌}
use Prim.Native.Nat.{ℕ, ◌-◌, ◌<◌, ◌≤◌}
use native.Mathlib.Omega.{arith}
use borrow.Author.Tests.{lt-ltb, le-ltb}
use Rattle.putting.proofs.Added.{text-is, at_most}
use Rattle.forms.specs.Words.{in_tenths, below_zero, degrees_text}
use Rattle.forms.proofs.words.put_degrees.Goals as goal

-- either side of zero
under : (n : ℕ) → n < 8000 → below_zero (8000 - n) ≡ degrees_text n
unfolding degrees_text
under n h = simp (lt-ltb n 8000 h)

over : (n : ℕ) → 8000 ≤ n → in_tenths (n - 8000) ≡ degrees_text n
unfolding degrees_text
over n h = simp (le-ltb n 8000 h)

pub returns-then-wide-lt8000 : goal.returns-then-wide-lt8000
returns-then-wide-lt8000 c =
    at_most (omega arith) (text-is (under _ c.if-wide-lt8000.true ∙ ap degrees_text c.from-wide.ensures) c.put_form.ensures)

pub returns-else-wide-lt8000 : goal.returns-else-wide-lt8000
returns-else-wide-lt8000 c =
    at_most (omega arith) (text-is (over _ c.if-wide-lt8000.false ∙ ap degrees_text c.from-wide.ensures) c.put_form-else-wide-lt8000.ensures)
