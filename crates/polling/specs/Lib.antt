-- Our request 16: the recorder runs its round.
pub mod Pace
pub mod Beginning
pub mod Meant
pub mod Drawing
pub mod Listening
pub mod Settling
pub mod Calls
-- What only the code needs.
pub mod Inside
