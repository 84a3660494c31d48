-- What one call answers; the bits and samples of a drawing; a drawing as pulses of the lines; where the first message closes.
pub mod Answered
pub mod Places
pub mod Pulses
pub mod Closing
-- The promises.
pub mod Outcome
pub mod Batches
pub mod Samples
pub mod Heard
pub mod Wire
pub mod Promises
