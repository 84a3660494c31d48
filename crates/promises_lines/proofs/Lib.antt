-- The lines heard. Words of bits; the states that are legal, and one step; quiet samples; a hearing as quiet samples and a close; all that samples tell,
-- whatever the batches.
pub mod Words
pub mod Legal
pub mod Quiet
pub mod Ends
pub mod Streams
-- The promises that follow from these.
pub mod Batches
pub mod Takes
pub mod Reached
pub mod States
pub mod Outcome
pub mod Form
pub mod Numbers
-- Runs, and what is drawn.
pub mod Grouped
pub mod Segments
pub mod SegmentSteps
pub mod Runs
pub mod Drawn
-- Bits and the bytes that hold them; what a call tells, and idle after it.
pub mod Messages
pub mod Tellings
pub mod Promises
