-- What document 02, request 13, says of item records, a file for each of its parts.
pub mod Check
pub mod Item
pub mod Record
pub mod Reading
pub mod Writing
pub mod Inside
