-- The laws of what is counted, each in a file named for what it speaks of.
pub mod FewCounted
pub mod CountedRecords
