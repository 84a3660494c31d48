-- Demand 2 whole: each promise, by the name that it has in its own file.
use Rattle.promises_frame.specs.Bits.{BitsAreBits}
use Rattle.promises_frame.specs.Rows.{RowBothWays}
use Rattle.promises_frame.specs.Levels.{LevelBothWays}
use Rattle.promises_frame.specs.Temperatures.{TemperatureBothWays}
use Rattle.promises_frame.specs.WrittenThenRead.{WrittenThenRead}
use Rattle.promises_frame.specs.OutsideItsRange.{OutsideItsRange}
use Rattle.promises_frame.specs.WrittenAgain.{WrittenAgain}
use Rattle.promises_frame.specs.Parity.{ParityKept}
use Rattle.promises_frame.specs.FirstFault.{FirstFault}
use Rattle.promises_frame.specs.Unreadable.{UnreadableDigit}
use Rattle.promises_frame.specs.OneOutcome.{OneOutcome}
use Rattle.promises_frame.specs.OnlyItsBytes.{OnlyItsBytes}
use Rattle.promises_frame.specs.Bench.{BenchChecks}

pub record DemandTwo : Type 0 where
  pub bits : BitsAreBits
  pub rows : RowBothWays
  pub levels : LevelBothWays
  pub temperatures : TemperatureBothWays
  pub written-then-read : WrittenThenRead
  pub outside-its-range : OutsideItsRange
  pub written-again : WrittenAgain
  pub parity : ParityKept
  pub first-fault : FirstFault
  pub unreadable-digit : UnreadableDigit
  pub one-outcome : OneOutcome
  pub only-its-bytes : OnlyItsBytes
  pub bench : BenchChecks
