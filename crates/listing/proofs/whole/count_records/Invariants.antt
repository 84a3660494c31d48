-- `listing::whole::count_records` meets its contract: after k turns the records of the first k slots are counted. Assumes nothing.
use mathlib.Core.Path.{◌≡◌}
use lib.ListN.{length}
use Rattle.sheet.specs.Slots.{list_up_to}
use Rattle.listing.proofs.whole.count_records.Given as goal

abbrev pub invariant-loop-k : goal.invariant-loop-k
invariant-loop-k l = l.records ≡ length (list_up_to l.sheet l.k)
