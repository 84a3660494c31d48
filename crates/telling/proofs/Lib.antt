-- What the call answers, by what its tests gave.
pub mod Telling
