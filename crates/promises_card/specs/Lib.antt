-- The promises, a folder for each crate that they speak of and a file for each promise.
-- The month sheet, and the view of one that is lent.
pub mod Sheet
-- The listing of a sheet.
pub mod Listing
-- The desk summary.
pub mod Summary
-- A whole round in one save.
pub mod Round
