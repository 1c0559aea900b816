-- A row of jobs: how it is cut, what a record is and what is left to write, and that each record is what the first
-- call gives.
pub mod Cutting
pub mod Records
pub mod Heads
pub mod Going
pub mod Batches
