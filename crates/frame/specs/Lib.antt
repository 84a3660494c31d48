-- What document 01 says of polls and replies, a file for each of its sections.
pub mod Pick
pub mod Line
pub mod Charts
pub mod Level
pub mod Temperature
pub mod Faults
pub mod Rising
pub mod Poll
pub mod Reply
pub mod Kinds
pub mod Pairs
pub mod Inside
