-- What document 01 says of the month sheet, a file for each of its rules.
pub mod Bytes
pub mod Record
pub mod Slots
pub mod Stores
pub mod Save
pub mod Into
pub mod Look
pub mod View
pub mod StoresTold
-- What only the code needs.
pub mod Inside
