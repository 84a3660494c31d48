-- `frame::pairs::lost_place` meets its contract: each return rewrites the definition with its test. Assumes nothing.
use mathlib.Core.Path.{◌≡◌, sym, ap, ◌∙◌}
use Prim.Native.Nat.{◌+◌, ◌-◌, ◌*◌, ◌/◌, ◌%◌, ◌^◌}
use native.Mathlib.Numerals.{add-one}
use native.Mathlib.Omega.{arith}
use borrow.Author.Tests.{eq-eqb, ne_eqb}
use Rattle.frame.specs.Pairs.{table_entry, index_of}
use Rattle.frame.proofs.PairTable.{index-0}
use Rattle.frame.proofs.pairs.lost_place.Goals.{After-entry}
use Rattle.frame.proofs.pairs.lost_place.Goals as goal

-- the entry of the first code with 0000
again : (c : After-entry) → c.entry.result ≡ table_entry (index_of c.args.odd (c.args.bits / 2 ^ (8 * (c.args.left - 1) + 4) % 16) 0)
again c =
    let a = c.args in
    c.entry.ensures ∙ ap table_entry (index-0 a.odd (a.bits / 2 ^ (8 * (a.left - 1) + 4) % 16))

pub returns-then-entry-eq-NO_PAIR : goal.returns-then-entry-eq-NO_PAIR
returns-then-entry-eq-NO_PAIR c = (rw (eq-eqb _ _ (sym (again (goal.at.returns-then-entry-eq-NO_PAIR c).After-entry) ∙ c.if-entry-eq-NO_PAIR.true)), omega arith)

pub returns : goal.returns
returns c =
    (rw (ne_eqb _ _ (λ e. c.if-entry-eq-NO_PAIR.false (again (goal.at.returns c).After-entry ∙ e))) (add-one c.args.place), omega arith)
