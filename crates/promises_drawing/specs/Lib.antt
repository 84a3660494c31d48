-- A message drawn on the two lines, our request 15: a file for each promise.
pub mod Sending
pub mod Outcome
pub mod Batches
pub mod Samples
pub mod Heard
pub mod Wire
pub mod Promises
