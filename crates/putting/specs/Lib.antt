-- What is put into an output, and what that leaves.
pub mod Digit
pub mod Puts
pub mod Adds
