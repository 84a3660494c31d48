-- What only the code needs, and a reader of document 01 need not believe.
pub mod Packed
pub mod Constants
pub mod Fitting
pub mod PairWords
pub mod Written
