-- The promises of item records, a file for each.
pub mod WrittenThenRead
pub mod ReadThenWritten
pub mod FirstFault
pub mod OneChange
pub mod OnlyItsBytes
pub mod OneOutcome
pub mod Samples
pub mod Promises
