-- How many rows are in use, which rows hold an address, rows so kept, and what a call asks of a board.
pub mod Count
pub mod Held
pub mod SoKept
pub mod Boards
-- Which rows move.
pub mod Moves
-- The old board and the new one side by side, and the promises.
pub mod SameCalls
pub mod Order
