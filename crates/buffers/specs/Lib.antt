-- What a buffer that is lent holds.
pub mod Zeros
