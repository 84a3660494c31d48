-- The laws that several proofs cite, each in a file named for what it speaks of.
pub mod Numbers
pub mod Ones
pub mod Blank
pub mod Same
pub mod BlankWords
pub mod ReplyWord
pub mod SlotParts
pub mod LastUsed
pub mod FewRecords
pub mod Records
pub mod Seen
pub mod Storing
pub mod Refusals
pub mod SaveNumbers
-- Where stores go, the slot that a save takes, the last used slot, and one save.
pub mod StorePlaces
pub mod TakenSlot
pub mod LastUsedSlot
pub mod SaveMade
-- The rows of an answer that tells a save's stores.
pub mod Rows
