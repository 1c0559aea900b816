-- Numbers and lists in bytes.
pub mod Words
pub mod Runs
pub mod Lent
pub mod Floats
pub mod Writer
pub mod Wrote
pub mod Examples
