-- The listing of a sheet; the last file is all of it.
pub mod Calls
pub mod InOrder
pub mod Records
pub mod Decimals
pub mod Bench
pub mod Room
pub mod Faults
pub mod OneOutcome
pub mod Promises
