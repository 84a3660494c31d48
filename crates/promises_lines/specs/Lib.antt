-- The lines heard, request 01 of document 02: a file for each promise.
pub mod History
pub mod Batches
pub mod Takes
pub mod States
pub mod Numbers
pub mod Form
pub mod Outcome
pub mod Runs
pub mod Drawn
pub mod Promises
