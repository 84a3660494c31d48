-- What only the code and the proofs need, and nobody has to believe: how the code finds the slot that a save goes to, a record's stores one by one, how
-- it takes a reply out of a slot, and the rows of an answer that tells stores. Each is proved to come to what the files beside this folder say.
pub mod Passing
pub mod InSlot
pub mod Word
pub mod Rows
