-- What document 01 says of a sheet's listing.
pub mod Text
pub mod Lines
pub mod Calls
