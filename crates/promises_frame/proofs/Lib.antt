-- Ways to go by cases.
pub mod Cases
pub mod Outside
-- Laws of lines: fields, bytes, three decimal digits, marks.
pub mod Fields
pub mod Bytes
pub mod Lines
pub mod Digits
pub mod LastBit
pub mod Marks
-- The level, and the temperature.
pub mod Narrow
pub mod Rows
pub mod Charts
pub mod Levels
pub mod LevelPlace
pub mod TemperaturesBack
pub mod Temperatures
pub mod NotTold
-- A reply as it is written, as it is read, and as it is accepted.
pub mod ReplySent
pub mod ReplyHeard
pub mod ReplyAccepted
-- The other promises, and all of them together.
pub mod BitsAreBits
pub mod Polls
pub mod WrittenThenRead
pub mod WrittenAgain
pub mod Parity
pub mod FirstFault
pub mod Unreadable
pub mod OneOutcome
pub mod OnlyItsBytes
pub mod OneBit
pub mod StepwiseCharts
pub mod OneStep
pub mod Bench
pub mod DemandTwo
pub mod DecimalChart
pub mod TwoReaders
