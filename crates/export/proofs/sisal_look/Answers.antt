-- `export::sisal_look` meets its contract. The count of a record fits one byte.
use Rattle.export.proofs.Fits.{look-fits}
use Rattle.export.proofs.sisal_look.Goals as goal

pub slot-requires : goal.slot-requires
slot-requires c = rw c.look.ensures.answers (look-fits c.args.sheet.now c.args.slot)
