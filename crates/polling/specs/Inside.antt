-- What only the code needs; nobody has to believe it.
pub mod Puts
pub mod Ears
pub mod Turns
pub mod Boards
