-- Demand 3 whole: each promise, by the name that it has in its own file.
use Rattle.promises_card.specs.Sheet.ListAndFull.{ListAndFull}
use Rattle.promises_card.specs.Sheet.OneSave.{OneSave}
use Rattle.promises_card.specs.Sheet.SlotsInOrder.{SlotsInOrder}
use Rattle.promises_card.specs.Sheet.LookAndList.{LookAndList}
use Rattle.promises_card.specs.Sheet.FirstFault.{SheetFault}
use Rattle.promises_card.specs.Sheet.OneOutcome.{SheetOutcome}

pub record DemandThree : Type 0 where
  pub list-and-full : ListAndFull
  pub one-save : OneSave
  pub slots-in-order : SlotsInOrder
  pub look-and-list : LookAndList
  pub first-fault : SheetFault
  pub one-outcome : SheetOutcome
