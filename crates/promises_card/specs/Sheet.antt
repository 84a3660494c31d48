-- The month sheet; `DemandThree` is the whole demand. Then the view of a lent sheet.
pub mod History
pub mod ListAndFull
pub mod OneSave
pub mod SlotsInOrder
pub mod LookAndList
pub mod FirstFault
pub mod OneOutcome
pub mod DemandThree
pub mod View
-- A save told as its stores; `SaveTold` is the whole.
pub mod ToldIsMade
pub mod InSteps
pub mod AllButTheLast
pub mod HostStores
pub mod SaveTold
