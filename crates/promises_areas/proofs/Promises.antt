-- All that is promised of areas, from its parts.
use Rattle.promises_areas.specs.Promises.{AreasPromises}
use Rattle.promises_areas.proofs.AcceptsExactly.{accepts-exactly}
use Rattle.promises_areas.proofs.EachOnce.{each-once}
use Rattle.promises_areas.proofs.Planner.{planner}
use Rattle.promises_areas.proofs.FirstFault.{areas-first-fault}
use Rattle.promises_areas.proofs.OneOutcome.{areas-one-outcome}

pub areas-promises : AreasPromises
areas-promises =
    record {
      accepts-exactly = accepts-exactly;
      each-once = each-once;
      planner = planner;
      first-fault = areas-first-fault;
      one-outcome = areas-one-outcome;
    }
