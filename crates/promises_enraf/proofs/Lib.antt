-- The promises of item records: laws of what follows the letters, of whole records and of the sum, then a theorem for each promise.
pub mod Tails
pub mod Outcomes
pub mod Records
pub mod Sums
pub mod WrittenThenRead
pub mod ReadThenWritten
pub mod FirstFault
pub mod OneChange
pub mod OnlyItsBytes
pub mod OneOutcome
pub mod Samples
pub mod Promises
