-- The promises of item records together.
use Rattle.promises_enraf.specs.WrittenThenRead.{ItemWrittenThenRead}
use Rattle.promises_enraf.specs.ReadThenWritten.{ItemReadThenWritten}
use Rattle.promises_enraf.specs.FirstFault.{ItemFirstFault}
use Rattle.promises_enraf.specs.OneChange.{ItemOneChange}
use Rattle.promises_enraf.specs.OnlyItsBytes.{ItemOnlyItsBytes}
use Rattle.promises_enraf.specs.OneOutcome.{ItemOneOutcome}
use Rattle.promises_enraf.specs.Samples.{ItemSamples}

pub record ItemPromises : Type 0 where
  pub written-then-read : ItemWrittenThenRead
  pub read-then-written : ItemReadThenWritten
  pub first-fault : ItemFirstFault
  pub one_change : ItemOneChange
  pub only-its-bytes : ItemOnlyItsBytes
  pub one-outcome : ItemOneOutcome
  pub samples : ItemSamples
