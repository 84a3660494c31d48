-- Laws that the proofs of the functions cite.
pub mod ByTests
pub mod Sums
pub mod SixKinds
pub mod Tails
pub mod Written
