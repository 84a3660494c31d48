-- A whole round in one save: each promise, by the name that it has in its own file.
use Rattle.promises_card.specs.Round.OneByOne.{OneByOne}
use Rattle.promises_card.specs.Round.Told.{RoundTold}
use Rattle.promises_card.specs.Round.Cut.{RoundCut}
use Rattle.promises_card.specs.Round.DemandThree.{OverRounds}
use Rattle.promises_card.specs.Round.AtAnyMoment.{RoundsAtAnyMoment}
use Rattle.promises_card.specs.Round.Stops.{Stops}
use Rattle.promises_card.specs.Round.DemandThreeWhole.{DemandThreeWhole}
use Rattle.promises_card.specs.Round.OneOutcome.{RoundOutcome}

pub record WholeRound : Type 0 where
  pub one_by_one : OneByOne
  pub told : RoundTold
  pub cut : RoundCut
  pub over-rounds : OverRounds
  pub at-any-moment : RoundsAtAnyMoment
  pub stops : Stops
  pub demand-three-whole : DemandThreeWhole
  pub one-outcome : RoundOutcome
