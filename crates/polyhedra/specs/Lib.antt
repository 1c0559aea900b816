-- The words of an answer of rank 4.
pub mod Solids
pub mod SolidWritten
