-- The desk summary whole: each promise, by the name that it has in its own file.
use Rattle.promises_card.specs.Summary.AtAnyMoment.{AtAnyMoment}
use Rattle.promises_card.specs.Summary.OwnFigures.{OwnFigures}
use Rattle.promises_card.specs.Summary.InOrder.{InOrder}
use Rattle.promises_card.specs.Summary.DemandThreeStands.{DemandThreeStands}
use Rattle.promises_card.specs.Summary.FirstFault.{SummaryFault}
use Rattle.promises_card.specs.Summary.Refused.{RefusedExactly}
use Rattle.promises_card.specs.Summary.OneOutcome.{SummaryOutcome}
use Rattle.promises_card.specs.Summary.Afresh.{Afresh}
use Rattle.promises_card.specs.Summary.AllCounted.{AllCounted}

pub record DeskSummary : Type 0 where
  pub at-any-moment : AtAnyMoment
  pub own-figures : OwnFigures
  pub in_order : InOrder
  pub demand-three-stands : DemandThreeStands
  pub first-fault : SummaryFault
  pub refused-exactly : RefusedExactly
  pub one-outcome : SummaryOutcome
  pub afresh : Afresh
  pub all-counted : AllCounted
