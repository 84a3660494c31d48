-- The laws that the proofs of the functions cite.
pub mod Places
pub mod Order
pub mod Carried
pub mod Searched
pub mod Faults
pub mod Named
pub mod Gauges
pub mod Numbers
pub mod OneRow
pub mod Hearing
pub mod Polling
pub mod LentRows
