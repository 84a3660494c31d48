-- Text for people: forms with numbers in them, and what is said in words.
pub mod Form
pub mod Days
pub mod Words
-- What only the code needs.
pub mod Inside
