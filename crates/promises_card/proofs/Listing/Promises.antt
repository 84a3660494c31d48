-- Each promise is proved in the file of its name. Assumes nothing.
use Rattle.promises_card.specs.Listing.Promises.{Listing}
use Rattle.promises_card.proofs.Listing.InOrder.{listing-in-order}
use Rattle.promises_card.proofs.Listing.Records.{listing-records}
use Rattle.promises_card.proofs.Listing.Decimals.{listing-decimals}
use Rattle.promises_card.proofs.Listing.Bench.{listing-bench}
use Rattle.promises_card.proofs.Listing.Room.{listing-room}
use Rattle.promises_card.proofs.Listing.Faults.{listing-faults}
use Rattle.promises_card.proofs.Listing.OneOutcome.{listing-outcome}
use Rattle.promises_card.proofs.Sheet.View.{sheet-view}

pub the-listing : Listing
the-listing =
    record {
      in_order = listing-in-order;
      records = listing-records;
      decimals = listing-decimals;
      bench = listing-bench;
      room = listing-room;
      faults = listing-faults;
      one-outcome = listing-outcome;
      view = sheet-view;
    }
