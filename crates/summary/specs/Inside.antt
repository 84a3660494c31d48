-- What only the code needs; a reader of document 02 need not believe these files.
pub mod Placed
pub mod Entering
