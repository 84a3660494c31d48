-- A save told as its stores, whole. Assumes nothing.
use Rattle.promises_card.specs.Sheet.SaveTold.{SaveTold}
use Rattle.promises_card.proofs.Sheet.ToldIsMade.{told-is-made}
use Rattle.promises_card.proofs.Sheet.InSteps.{in-steps}
use Rattle.promises_card.proofs.Sheet.AllButTheLast.{all-but-the-last}
use Rattle.promises_card.proofs.Sheet.HostStores.{host-stores}

pub save-told : SaveTold
save-told =
    record { told-is-made = told-is-made; in-steps = in-steps; all-but-the-last = all-but-the-last; host-stores = host-stores }
