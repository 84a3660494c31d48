-- The desk summary whole: each promise is proved in its own file. Assumes nothing.
use Rattle.promises_card.specs.Summary.DeskSummary.{DeskSummary}
use Rattle.promises_card.proofs.Summary.AtAnyMoment.{at-any-moment}
use Rattle.promises_card.proofs.Summary.OwnFigures.{own-figures}
use Rattle.promises_card.proofs.Summary.InOrder.{in_order}
use Rattle.promises_card.proofs.Summary.DemandThreeStands.{demand-three-stands}
use Rattle.promises_card.proofs.Summary.FirstFault.{summary-fault}
use Rattle.promises_card.proofs.Summary.Refused.{refused-exactly}
use Rattle.promises_card.proofs.Summary.OneOutcome.{summary-outcome}
use Rattle.promises_card.proofs.Summary.Afresh.{afresh-made}
use Rattle.promises_card.proofs.Summary.AllCounted.{all-counted}

pub desk-summary : DeskSummary
desk-summary =
    record {
      at-any-moment = at-any-moment;
      own-figures = own-figures;
      in_order = in_order;
      demand-three-stands = demand-three-stands;
      first-fault = summary-fault;
      refused-exactly = refused-exactly;
      one-outcome = summary-outcome;
      afresh = afresh-made;
      all-counted = all-counted;
    }
