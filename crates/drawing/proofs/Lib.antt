-- Laws that the proofs of the functions cite.
pub mod Idle
pub mod Rest
pub mod Answers
