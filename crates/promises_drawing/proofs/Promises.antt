-- Every promise of drawing is proved.
use Rattle.promises_drawing.specs.Promises.{DrawPromises}
use Rattle.promises_drawing.proofs.Outcome.{draw-outcome, draw-first-fault, draw-only-its-bytes}
use Rattle.promises_drawing.proofs.Batches.{draw-batches}
use Rattle.promises_drawing.proofs.Samples.{each-sample}
use Rattle.promises_drawing.proofs.Heard.{drawn-and-heard}
use Rattle.promises_drawing.proofs.Wire.{poll-on-the-wire}

pub draw-promises : DrawPromises
draw-promises =
    record {
      one-outcome = draw-outcome;
      first-fault = draw-first-fault;
      only-its-bytes = draw-only-its-bytes;
      batches = draw-batches;
      each-sample = each-sample;
      drawn-and-heard = drawn-and-heard;
      poll-on-the-wire = poll-on-the-wire;
    }
