-- Laws of days counted on.
pub mod Counted
pub mod Years
