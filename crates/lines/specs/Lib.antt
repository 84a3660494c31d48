-- Document 02, request 01: the two lines heard sample by sample.
pub mod Sample
pub mod Timing
pub mod SoFar
pub mod Step
pub mod Hearing
pub mod Calls
-- What only the code needs.
pub mod Inside
