-- Which refusal is the first, and what the check of a job answers.
pub mod Refusal
pub mod Passed
