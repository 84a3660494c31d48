-- What a round goes through, try by try; then the promises.
pub mod Traces
pub mod OneByOne
pub mod Closed
pub mod Told
pub mod Cut
pub mod TriedRecords
pub mod DemandThree
pub mod AtAnyMoment
pub mod Stops
pub mod NoSlotLeft
pub mod DemandThreeWhole
pub mod OneOutcome
pub mod WholeRound
