-- Places, the board as it was, the calls said once, and the board in address order beside the old one.
pub mod Places
pub mod OldBoard
pub mod Calls
pub mod Order
