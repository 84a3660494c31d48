-- A whole round in one save; `WholeRound` is all of its promises.
pub mod Tries
pub mod OneByOne
pub mod Told
pub mod Cut
pub mod Histories
pub mod DemandThree
pub mod AtAnyMoment
pub mod Stops
pub mod AnyCalls
pub mod DemandThreeWhole
pub mod OneOutcome
pub mod WholeRound
