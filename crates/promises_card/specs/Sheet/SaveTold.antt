-- A save told as its stores, whole: each promise, by the name that it has in its own file. Its one outcome stands in `OneOutcome.antt`, its first fault
-- in `FirstFault.antt`, beside those of the save.
use Rattle.promises_card.specs.Sheet.ToldIsMade.{ToldIsMade}
use Rattle.promises_card.specs.Sheet.InSteps.{InSteps}
use Rattle.promises_card.specs.Sheet.AllButTheLast.{AllButTheLast}
use Rattle.promises_card.specs.Sheet.HostStores.{HostStores}

pub record SaveTold : Type 0 where
  pub told-is-made : ToldIsMade
  pub in-steps : InSteps
  pub all-but-the-last : AllButTheLast
  pub host-stores : HostStores
