-- The laws that the proofs of the functions cite.
pub mod Paces
pub mod Meaning
pub mod Resting
pub mod Pieces
pub mod OneTurn
pub mod Sizes
pub mod Putting
pub mod Answers
pub mod Taking
pub mod UsedRows
