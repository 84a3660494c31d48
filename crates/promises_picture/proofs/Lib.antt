-- The theorems of the promises.
mod EachFault
pub mod DrawnAsListed
pub mod Read
pub mod PlainWords
pub mod PageAsListed
