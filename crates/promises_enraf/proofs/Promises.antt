-- All that is promised of item records, from its parts.
use Rattle.promises_enraf.specs.Promises.{ItemPromises}
use Rattle.promises_enraf.proofs.WrittenThenRead.{item-written-then-read}
use Rattle.promises_enraf.proofs.ReadThenWritten.{item-read-then-written}
use Rattle.promises_enraf.proofs.FirstFault.{item-first-fault}
use Rattle.promises_enraf.proofs.OneChange.{item-one-change}
use Rattle.promises_enraf.proofs.OnlyItsBytes.{item-only-its-bytes}
use Rattle.promises_enraf.proofs.OneOutcome.{item-one-outcome}
use Rattle.promises_enraf.proofs.Samples.{item-samples}

pub item-promises : ItemPromises
item-promises =
    record {
      written-then-read = item-written-then-read;
      read-then-written = item-read-then-written;
      first-fault = item-first-fault;
      one_change = item-one-change;
      only-its-bytes = item-only-its-bytes;
      one-outcome = item-one-outcome;
      samples = item-samples;
    }
