-- Splitting on numbers, and that it is the definition's.
pub mod Splitting
pub mod Parts
pub mod Examples
