-- How a call comes to its answer, step by step.
pub mod Steps
pub mod Ends
pub mod Swaps
