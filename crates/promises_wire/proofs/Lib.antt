-- The proofs of the whole way: records stored on a sheet, one by one and by rounds; the listing by slots.
pub mod Stored
pub mod Rounds
pub mod Listed
-- What a poll's answer is, and what a month comes to.
pub mod Polled
pub mod Months
-- What was sent and what is noted; and that all this can be.
pub mod SaidSo
pub mod Fixed
pub mod Happens
-- The board.
pub mod Board
-- The recorder runs its round.
pub mod Tries
pub mod Running
-- The promise.
pub mod TankToDesk
-- A reading sent in time.
pub mod Timely
pub mod InTime
-- A round run to its end, in any batches.
pub mod Ending
pub mod ToTheEnd
pub mod Turns
pub mod Answering
pub mod Habits
pub mod Evenly
pub mod AnyBatches
