-- What a join is stands with the summary's definitions; here is what the code alone needs.
pub mod Inside
