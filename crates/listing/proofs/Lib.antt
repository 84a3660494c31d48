-- The laws that several proofs cite, each in a file named for what it speaks of.
pub mod Numbers
pub mod Seen
pub mod Answers
pub mod Slotwise
