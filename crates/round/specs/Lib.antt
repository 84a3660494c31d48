-- What document 02 says of a whole round in one save (request 05), a file for each of its rules.
pub mod Replies
pub mod Saving
pub mod Calls
pub mod Inside
