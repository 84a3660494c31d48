-- The desk summary; `DeskSummary` is all of its promises.
pub mod Chain
pub mod AtAnyMoment
pub mod OwnFigures
pub mod InOrder
pub mod DemandThreeStands
pub mod FirstFault
pub mod Refused
pub mod OneOutcome
pub mod Afresh
pub mod DeskSummary
pub mod Join
pub mod JoinRefused
pub mod Year
pub mod AllCounted
