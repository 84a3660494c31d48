-- The laws that the calls cite.
pub mod Runs
pub mod Settled
