-- The promises of areas: laws of totals, of the runs of a plan and of the plan of largest areas, then a theorem for each promise.
pub mod Runs
pub mod Largest
pub mod Answers
pub mod AcceptsExactly
pub mod EachOnce
pub mod Planner
pub mod FirstFault
pub mod OneOutcome
pub mod Promises
