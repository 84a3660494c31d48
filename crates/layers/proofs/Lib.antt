-- The laws that several proofs cite, each in a file named for what it speaks of.
pub mod Drawn
pub mod MoreGauged
pub mod MoreNoted
