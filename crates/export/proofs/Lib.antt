-- The laws that the proofs of the functions and the readers of the contracts cite.
pub mod Fits
pub mod Back
pub mod Kept
pub mod ToldNumbers
pub mod OneOutcome
pub mod OneVersion
