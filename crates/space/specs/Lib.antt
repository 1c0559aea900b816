-- What the structs of the code mean, and what follows at once.
pub mod Fits
pub mod Meaning
pub mod Rows
pub mod Counts
pub mod Lengths
