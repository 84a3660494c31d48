-- What document 02 says of the desk summary (requests 03 and 08), a file for each of its rules.
pub mod Line
pub mod Worked
pub mod Handed
pub mod Updated
pub mod Calls
pub mod Joined
-- What those who add to a summary stand on.
pub mod Sound
pub mod Entered
pub mod Inside
