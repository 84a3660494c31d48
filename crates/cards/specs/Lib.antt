-- What the desk's programs count of a card.
pub mod Tally
