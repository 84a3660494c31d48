-- The laws that the readers of the contracts cite.
pub mod Kept
