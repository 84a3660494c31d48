-- A text that a call wrote, and the replies of its lines.
pub mod Written
pub mod Replies
-- The promises.
pub mod InOrder
pub mod Decimals
pub mod Records
pub mod Bench
pub mod Room
pub mod Faults
pub mod OneOutcome
pub mod Promises
