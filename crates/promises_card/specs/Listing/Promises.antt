-- The listing and the view whole: each promise, by the name that it has in its own file.
use Rattle.promises_card.specs.Listing.InOrder.{ListingInOrder}
use Rattle.promises_card.specs.Listing.Records.{ListingRecords}
use Rattle.promises_card.specs.Listing.Decimals.{ListingDecimals}
use Rattle.promises_card.specs.Listing.Bench.{ListingBench}
use Rattle.promises_card.specs.Listing.Room.{ListingRoom}
use Rattle.promises_card.specs.Listing.Faults.{ListingFaults}
use Rattle.promises_card.specs.Listing.OneOutcome.{ListingOutcome}
use Rattle.promises_card.specs.Sheet.View.{SheetView}

pub record Listing : Type 0 where
  pub in_order : ListingInOrder
  pub records : ListingRecords
  pub decimals : ListingDecimals
  pub bench : ListingBench
  pub room : ListingRoom
  pub faults : ListingFaults
  pub one-outcome : ListingOutcome
  pub view : SheetView
