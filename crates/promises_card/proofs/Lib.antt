-- The proofs of the promises, in the folders of their statements.
-- The month sheet, and the view of one that is lent.
pub mod Sheet
-- The listing of a sheet.
pub mod Listing
-- The desk summary.
pub mod Summary
-- A whole round in one save.
pub mod Round
