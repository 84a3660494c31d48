-- What only the code needs; nobody has to believe it.
pub mod Profiles
pub mod ByValue
