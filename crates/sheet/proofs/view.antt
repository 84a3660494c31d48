-- The laws that the view's proofs cite.
pub mod Part
pub mod Spans
