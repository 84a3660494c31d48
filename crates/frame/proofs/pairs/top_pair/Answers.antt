-- `frame::pairs::top_pair` meets its contract: the two codes that it asks for stand side by side. Assumes nothing.
use mathlib.Core.Path.{ap, ◌∙◌}
use Prim.Native.Nat.{◌-◌, ◌*◌}
use Rattle.frame.specs.Pairs.{table_entry}
use Rattle.frame.proofs.PairTable.{index_is}
use Rattle.frame.proofs.pairs.top_pair.Goals as goal

pub returns : goal.returns
returns c = let a = c.args in c.entry.ensures ∙ ap table_entry (index_is a.odd a.bits (8 * (a.left - 1)))
