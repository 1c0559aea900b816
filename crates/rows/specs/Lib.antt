-- Rows in bytes, marks in arrays, and codes of pairs.
pub mod Rows
pub mod Marks
pub mod Codes
