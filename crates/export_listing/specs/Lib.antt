-- The contract of each call of the listing for the host.
pub mod Calls
