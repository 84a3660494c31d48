-- What document 01 says of the board, a file for each step: a gauge, a row, the rows, the calls. What stands under `inside` is for the proofs alone.
pub mod Gauge
pub mod Row
pub mod Rows
pub mod Order
pub mod Calls
pub mod Inside
