-- `picture::top::put_when` meets its contract, by its test. Assumes nothing.
use mathlib.Core.Path.{◌≡◌}
use mathlib.Core.List.{◌++◌}
use native.Mathlib.Omega.{arith}
use Rattle.putting.proofs.Added.{then, text-is, at_most}
use borrow.Author.Tests.{eq-eqb, ne_eqb}
use Rattle.listing.specs.Text.{ascii}
use Rattle.cards.specs.declared.counting.Tally.{Tally}
use Rattle.std.specs.Prelude.{Option}
use Rattle.calendar.specs.declared.counting.Day.{Day}
use Rattle.forms.specs.Days.{moment_text}
use Rattle.picture.specs.Page.{when_text}
use Rattle.picture.proofs.top.put_when.Goals as goal

no_record : (begin : Option Day) (t : Tally) → t.records ≡ 0 → ascii "no record" ≡ when_text begin t
unfolding when_text
no_record begin t h = simp (eq-eqb t.records 0 h)

from-to : (begin : Option Day) (t : Tally) → (t.records ≡ 0 → ⊥) → moment_text begin t.first ++ ascii " to " ++ moment_text begin t.last ≡ when_text begin t
unfolding when_text
from-to begin t h = simp (ne_eqb t.records 0 h)

pub returns-then-t-eq0 : goal.returns-then-t-eq0
returns-then-t-eq0 c = at_most (omega arith) (text-is (no_record c.args.begin c.args.t c.if-t-eq0.true) c.word.ensures)

pub returns-else-t-eq0 : goal.returns-else-t-eq0
returns-else-t-eq0 c = at_most (omega arith) (text-is (from-to c.args.begin c.args.t c.if-t-eq0.false) (then (then c.put_moment.ensures c.word-else-t-eq0.ensures) c.put_moment-else-t-eq0.ensures))
