-- The exported functions: what is read back from an answer, what follows for the three demands, and what is promised
-- of a row of jobs.
pub mod Reading
pub mod Demands
pub mod Batches
pub mod Plain
pub mod Nobles
