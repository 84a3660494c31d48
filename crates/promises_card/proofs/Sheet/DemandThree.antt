-- Demand 3 whole. Assumes nothing.
use Rattle.promises_card.specs.Sheet.DemandThree.{DemandThree}
use Rattle.promises_card.proofs.Sheet.ListAndFull.{list-and-full}
use Rattle.promises_card.proofs.Sheet.OneSave.{one-save}
use Rattle.promises_card.proofs.Sheet.SlotsInOrder.{slots-in-order}
use Rattle.promises_card.proofs.Sheet.LookAndList.{look-and-list}
use Rattle.promises_card.proofs.Sheet.FirstFault.{sheet-fault}
use Rattle.promises_card.proofs.Sheet.OneOutcome.{sheet-outcome}

pub demand-three : DemandThree
demand-three =
    record {
      list-and-full = list-and-full;
      one-save = one-save;
      slots-in-order = slots-in-order;
      look-and-list = look-and-list;
      first-fault = sheet-fault;
      one-outcome = sheet-outcome;
    }
