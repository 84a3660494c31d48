-- Our request 18, "A month to look at": what is drawn of the records of a pair, and what they come to.
pub mod Drawing
pub mod Gauged
pub mod Layers
-- What only the code needs.
pub mod Inside
