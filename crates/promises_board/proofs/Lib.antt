-- Tests, places, temperatures out of range, what a call leaves and tells.
pub mod Tests
pub mod Places
pub mod Ranges
pub mod After
pub mod Told
-- The board as it was, by which most of today's promises are proved.
pub mod Calls
pub mod Done
pub mod Readings
pub mod History
pub mod Orders
pub mod Polls
pub mod Free
pub mod EitherOrder
pub mod Since
pub mod OldView
pub mod OneView
-- The promises, of today's calls; those of the orders, of free rows and of one outcome stand in the files above.
pub mod Now
pub mod Unprofiled
pub mod SameHistory
pub mod HistoryNow
pub mod SinceNow
pub mod PollsNow
pub mod View
pub mod Promises
