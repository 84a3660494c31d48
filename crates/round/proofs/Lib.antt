-- The laws that several proofs cite, each in a file named for what it speaks of.
pub mod Turns
pub mod Trying
pub mod Lent
pub mod Counting
pub mod Thirty
pub mod Refusing
