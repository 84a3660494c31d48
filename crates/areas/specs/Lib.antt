-- What document 02, request 14, says of areas, a file for each of its parts.
pub mod Site
pub mod Check
pub mod Plan
