-- Our request 18: what is drawn is what is listed.
pub mod Drawn
pub mod Reader
pub mod OnPage
