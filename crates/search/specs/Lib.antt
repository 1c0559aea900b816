-- The search in a workspace.
pub mod Outcomes
pub mod SearchSteps
