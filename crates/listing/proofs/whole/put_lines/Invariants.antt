-- `listing::whole::put_lines` meets its contract: after k turns the lines of the first k slots were added, and their records are counted. Assumes
-- nothing.
use mathlib.Core.Path.{◌≡◌}
use Prim.Native.Nat.{◌*◌}
use lib.ListN.{length}
use Rattle.sheet.specs.Slots.{list_up_to}
use Rattle.listing.specs.Lines.{lines_up_to}
use Rattle.putting.specs.Adds.{Adds}
use Rattle.listing.proofs.whole.put_lines.Given as goal

abbrev pub invariant-loop-k : goal.invariant-loop-k
invariant-loop-k l = Adds (lines_up_to l.sheet l.k) (40 * l.k) l.initial.text l.text × (l.records ≡ length (list_up_to l.sheet l.k))
