-- What the calls for the host answer: the contract of each call.
pub mod Calls
pub mod Version
