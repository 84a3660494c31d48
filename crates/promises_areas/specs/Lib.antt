-- The promises of areas, a file for each.
pub mod Plans
pub mod AcceptsExactly
pub mod EachOnce
pub mod Planner
pub mod FirstFault
pub mod OneOutcome
pub mod Promises
