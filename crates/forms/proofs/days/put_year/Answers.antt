-- `forms::days::put_year` meets its contract, by its test: no number has more than ten digits. Assumes nothing.
use mathlib.Core.Path.{◌≡◌}
use native.Mathlib.Omega.{arith}
use Rattle.putting.proofs.Added.{then, text-is, at_most}
use mathlib.Core.List.{◌++◌}
use Prim.Native.Nat.{ℕ, ◌<◌, ◌≤◌, ◌/◌, ◌%◌}
use borrow.Author.Tests.{lt-ltb, le-ltb}
use Rattle.listing.specs.Text.{in_decimal}
use Rattle.listing.proofs.Numbers.{few-digits}
use Rattle.forms.specs.Days.{two_digits, year_text}
use Rattle.forms.proofs.days.put_year.Goals as goal

-- four digits, and more
four : (y : ℕ) → y < 10000 → two_digits (y / 100) ++ two_digits (y % 100) ≡ year_text y
unfolding year_text
four y h = simp (lt-ltb y 10000 h)

more : (y : ℕ) → 10000 ≤ y → in_decimal y ≡ year_text y
unfolding year_text
more y h = simp (le-ltb y 10000 h)

pub returns-then-year-lt10000 : goal.returns-then-year-lt10000
returns-then-year-lt10000 c = at_most (omega arith) (text-is (four c.args.year c.if-year-lt10000.true) (then c.put_two.ensures c.put_two-then-year-lt10000.ensures))

pub put_number-requires : goal.put_number-requires
put_number-requires c = omega (arith, few-digits 9 c.args.year (omega arith), c.requires)

pub returns-else-year-lt10000 : goal.returns-else-year-lt10000
returns-else-year-lt10000 c = text-is (more c.args.year c.if-year-lt10000.false) c.put_number.ensures
