-- All that is promised of drawing.
use Rattle.promises_drawing.specs.Outcome.{DrawOutcome, DrawFirstFault, DrawOnlyItsBytes}
use Rattle.promises_drawing.specs.Batches.{DrawBatches}
use Rattle.promises_drawing.specs.Samples.{EachSample}
use Rattle.promises_drawing.specs.Heard.{DrawnAndHeard}
use Rattle.promises_drawing.specs.Wire.{PollOnTheWire}

pub record DrawPromises : Type 0 where
  pub one-outcome : DrawOutcome
  pub first-fault : DrawFirstFault
  pub only-its-bytes : DrawOnlyItsBytes
  pub batches : DrawBatches
  pub each-sample : EachSample
  pub drawn-and-heard : DrawnAndHeard
  pub poll-on-the-wire : PollOnTheWire
