-- What one outcome is, said of every call.
pub mod One
-- Polls and replies: bits, levels and temperatures, then whole replies; `DemandTwo` is the whole demand, and after it stand what requests of document 02 add.
pub mod Bits
pub mod Rows
pub mod Levels
pub mod NotTold
pub mod Temperatures
pub mod Calls
pub mod WrittenThenRead
pub mod OutsideItsRange
pub mod WrittenAgain
pub mod Parity
pub mod FirstFault
pub mod Unreadable
pub mod OneOutcome
pub mod OnlyItsBytes
pub mod OneStep
pub mod Bench
pub mod DemandTwo
pub mod DecimalChart
pub mod TwoReaders
