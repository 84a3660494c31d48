-- Laws that the proofs of the functions cite.
pub mod Cases
pub mod Places
pub mod Kept
pub mod Steps
pub mod Words
pub mod Alike
pub mod Grown
