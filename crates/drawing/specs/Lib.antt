-- Our request 15: a message drawn on the two lines.
pub mod Pulses
pub mod Calls
-- What only the code needs.
pub mod Inside
