-- What a transmitter's settings say, for the programs that print them.
pub mod Words
