-- A whole round in one save, whole: each promise is proved in its own file. Assumes nothing.
use Rattle.promises_card.specs.Round.WholeRound.{WholeRound}
use Rattle.promises_card.proofs.Round.OneByOne.{one_by_one}
use Rattle.promises_card.proofs.Round.Told.{told}
use Rattle.promises_card.proofs.Round.Cut.{round-cut}
use Rattle.promises_card.proofs.Round.DemandThree.{over-rounds}
use Rattle.promises_card.proofs.Round.AtAnyMoment.{rounds-at-any-moment}
use Rattle.promises_card.proofs.Round.Stops.{round-stops}
use Rattle.promises_card.proofs.Round.DemandThreeWhole.{demand-three-whole}
use Rattle.promises_card.proofs.Round.OneOutcome.{round-outcome}

pub whole-round : WholeRound
whole-round =
    record {
      one_by_one = one_by_one;
      told = told;
      cut = round-cut;
      over-rounds = over-rounds;
      at-any-moment = rounds-at-any-moment;
      stops = round-stops;
      demand-three-whole = demand-three-whole;
      one-outcome = round-outcome;
    }
