-- How the answers of the crates below are told in integers.
pub mod Told
