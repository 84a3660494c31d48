-- Our request 18, "A month to look at": what the page of a card says.
pub mod Axis
pub mod Page
pub mod Calls
-- What only the code needs.
pub mod Inside
