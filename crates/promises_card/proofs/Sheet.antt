-- What becomes of one save.
pub mod Fates
-- The promises.
pub mod OneSave
pub mod ListAndFull
pub mod SlotsInOrder
pub mod LookAndList
pub mod FirstFault
pub mod OneOutcome
pub mod DemandThree
pub mod View
-- A save told as its stores: the stores told, stores made at once, and the promises.
pub mod Telling
pub mod AtOnce
pub mod ToldIsMade
pub mod InSteps
pub mod AllButTheLast
pub mod HostStores
pub mod SaveTold
