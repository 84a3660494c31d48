-- Demand 2, proved: each promise stands in the file that its `use` line names.
use Rattle.promises_frame.specs.DemandTwo.{DemandTwo}
use Rattle.promises_frame.proofs.BitsAreBits.{bits-are-bits}
use Rattle.promises_frame.proofs.Rows.{row-both-ways}
use Rattle.promises_frame.proofs.Levels.{level-both-ways}
use Rattle.promises_frame.proofs.Temperatures.{temperature-both-ways}
use Rattle.promises_frame.proofs.WrittenThenRead.{written-then-read, outside-its-range}
use Rattle.promises_frame.proofs.WrittenAgain.{written-again}
use Rattle.promises_frame.proofs.Parity.{parity-kept}
use Rattle.promises_frame.proofs.FirstFault.{first-fault}
use Rattle.promises_frame.proofs.Unreadable.{unreadable-digit}
use Rattle.promises_frame.proofs.OneOutcome.{one-outcome}
use Rattle.promises_frame.proofs.OnlyItsBytes.{only-its-bytes}
use Rattle.promises_frame.proofs.Bench.{bench-checks}

pub demand-two : DemandTwo
demand-two =
    record {
      bits = bits-are-bits;
      rows = row-both-ways;
      levels = level-both-ways;
      temperatures = temperature-both-ways;
      written-then-read = written-then-read;
      outside-its-range = outside-its-range;
      written-again = written-again;
      parity = parity-kept;
      first-fault = first-fault;
      unreadable-digit = unreadable-digit;
      one-outcome = one-outcome;
      only-its-bytes = only-its-bytes;
      bench = bench-checks;
    }
