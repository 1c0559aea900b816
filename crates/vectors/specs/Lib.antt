-- What the arrays of the code mean, and what follows at once.
pub mod Meaning
pub mod Wholes
