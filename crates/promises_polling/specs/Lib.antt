-- The recorder runs its round, our request 16: a file for each promise.
pub mod History
pub mod Outcome
pub mod Batches
pub mod Ends
pub mod Fit
pub mod Turns
pub mod Answers
pub mod Promises
