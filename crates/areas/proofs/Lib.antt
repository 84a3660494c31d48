-- Laws that the proofs of the functions cite.
pub mod Totals
pub mod Joining
pub mod Cutting
