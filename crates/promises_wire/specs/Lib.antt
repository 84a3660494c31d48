-- The whole way: what is sent on the two lines, heard, saved, summed up and listed.
-- A poll, and what came of it; how it was heard, by the calls of the lines.
pub mod Polls
pub mod Heard
-- A reply on the two lines.
pub mod Wire
-- What is to come of it, made from what was sensed and the cuts alone.
pub mod Expected
-- What the recorder does in a month.
pub mod Month
-- The board beside it.
pub mod Board
-- A morning that the recorder runs itself.
pub mod Running
-- The promise.
pub mod TankToDesk
-- The same of a reading that is sent in time to a recorder that runs its round.
pub mod InTime
-- And that a round is run to its end, in any batches.
pub mod ToTheEnd
pub mod AnyBatches
