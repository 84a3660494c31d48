-- What only the code needs; a reader of document 02 need not believe this file.
pub mod Ways
