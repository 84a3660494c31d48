-- The board: each call, then calls after one another; the last file is all of it.
pub mod Profiles
pub mod Calls
pub mod Readings
pub mod History
pub mod Kept
pub mod Unprofiled
pub mod Orders
pub mod Polls
pub mod Since
pub mod Free
pub mod View
pub mod Promises
