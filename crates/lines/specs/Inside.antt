-- What only the code needs; nobody has to believe it.
pub mod Safe
pub mod Runs
