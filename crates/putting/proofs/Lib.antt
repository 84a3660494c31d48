-- The laws that the proofs above cite.
pub mod Putting
pub mod Added
