-- Edges as marks at their codes.
pub mod Marks
pub mod MarkSteps
pub mod Summaries
pub mod Ends
