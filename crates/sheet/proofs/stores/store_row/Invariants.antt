-- `sheet::stores::store_row` meets its contract: after i turns the sheet is the one after the first i stores of the row, or after all that are wanted. Assumes nothing.
use Rattle.std.proofs.Common.{◌≡◌, take}
use Prim.Native.Nat.{min}
use Rattle.sheet.specs.Stores.{made, ascending}
use Rattle.sheet.proofs.stores.store_row.Given as goal

abbrev pub invariant-loop-i : goal.invariant-loop-i
invariant-loop-i l = l.sheet ≡ made l.initial.sheet (take (min l.i l.many) (ascending l.at l.row))
