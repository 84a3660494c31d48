-- The calendar.
pub mod Days
-- What only the code needs.
pub mod Inside
